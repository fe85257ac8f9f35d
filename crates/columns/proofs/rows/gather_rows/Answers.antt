-- `gather_rows` meets its contract: the guard is the definition's test, and a row has the bytes of a word of the mode's code. Assumes nothing.
use Rattle.std.proofs.Common.{ℕ, length, sym, ap, ◌∙◌}
use Rattle.basics.specs.Bytes.{bit_in, lines}
use Rattle.basics.specs.Padding.{col_bytes}
use Rattle.basics.proofs.Choice.{pick_passed}
use Rattle.construction.specs.Transfer.{rows}
use Rattle.columns.specs.Gathered.{rows_fit}
use Rattle.columns.proofs.rows.gather_rows.Goals as goal

pub returns-then-rows_fit : goal.returns-then-rows_fit
unfolding rows
returns-then-rows_fit c =
    let a = c.args in
    let width = c.row_bytes-width.ensures.is in
    pick_passed _ (sym (c.rows_fit.ensures ∙ ap (λ (w : ℕ). rows_fit w a.rows (length a.columns.now) (length a.out.now)) width) ∙ c.if-rows_fit.true)
    (c.give_rows.ensures ∙ ap (λ (w : ℕ). lines a.rows w (λ j i. bit_in (col_bytes a.rows) a.columns.now i j)) width)
