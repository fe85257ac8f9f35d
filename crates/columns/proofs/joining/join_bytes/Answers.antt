-- `join_bytes` meets its contract: each turned and joined word has the bytes of its eight rows. The answer holds of a part that is the whole output too, so that
-- what the edit `joined_rows_left_out` breaks is the number of rows and not the form of the call. Assumes nothing.
use Rattle.std.proofs.Common.{ℕ, ◌≡◌, ◌*◌, ◌≤◌, ◌∙◌, length, ap, arith, rules}
use Rattle.std.proofs.lemmas.List.{take_all, drop_all, append-nil}
use Rattle.basics.specs.Padding.{col_bytes}
use Rattle.columns.specs.Gathered.{given, joined}
use Rattle.columns.proofs.Gathered.{eight_fit_passed}
use Rattle.columns.proofs.Turned.{byte_of_both}
use Rattle.columns.proofs.joining.join_bytes.Goals as goal

pub returns : goal.returns
returns c =
    let a = c.args in
    let byte : ℕ → ℕ = joined (col_bytes a.rows) a.keep a.eight.now a.others.now in
    let fit = eight_fit_passed a.rows a.width a.g (length a.eight.now) (length a.others.now) (length a.out.now) c.requires in
    let whole : (n m : ℕ) → n ≡ a.rows → m ≡ a.width → length a.out.now ≤ n * m = λ n m p q. rw (p, q) (omega (arith, fit.rows_long)) in
    (search (drop_all, append-nil, whole))
    ∙ c.give_words.ensures byte
    (λ b w i hb hw hi. byte_of_both _ b a.keep a.eight.now a.others.now c.column_bytes-c.ensures (omega arith) c.eight_times-eight_keep.ensures (search rules) i hi)
    ∙ ap (given a.width a.g byte) (search (take_all, whole))
