-- `select`: the guard is the definition's test, and where it holds numbers and lengths fit.
use Rattle.std.proofs.Common.{◌≡◌, ℕ, refl, ap, sym, ◌∙◌, length, arith}
use Rattle.basics.proofs.Choice.{pick_passed, pick_failed}
use Rattle.strings.specs.Selected.{selected, selected_over}
use Rattle.strings.proofs.Selected.{fit_passed}
use Rattle.strings.proofs.select.Goals as goal

pub returns-then-select_fit : goal.returns-then-select_fit
unfolding selected_over
returns-then-select_fit c =
    let a = c.args in
    let s = c.of-shape.result in
    let fits = fit_passed a.rows a.places a.bytes (length a.selections.now) (length a.strings.now) (length a.out.now) (omega arith) (omega arith)
    (sym c.select_fit.ensures ∙ c.if-select_fit.true) in
    let strings : s.strings ≡ a.places = omega arith in
    let bytes : s.bytes ≡ a.bytes = omega arith in
    pick_passed _ (sym c.select_fit.ensures ∙ c.if-select_fit.true)
    (c.select_rows.ensures
    ∙ ap (λ (m : ℕ). selected m s.strings s.bytes a.selections.now a.strings.now) fits.selections_long
    ∙ ap (λ (n : ℕ). selected a.rows n s.bytes a.selections.now a.strings.now) strings
    ∙ ap (λ (l : ℕ). selected a.rows a.places l a.selections.now a.strings.now) bytes)

pub returns-else-select_fit : goal.returns-else-select_fit
unfolding selected_over
returns-else-select_fit c = pick_failed _ (sym c.select_fit.ensures ∙ c.if-select_fit.false) refl
