-- `join_eight` meets its contract: the guard is the definition's test. Assumes nothing.
use Rattle.std.proofs.Common.{refl, sym, ◌∙◌}
use Rattle.basics.proofs.Choice.{pick_passed, pick_failed}
use Rattle.columns.specs.Gathered.{joined_over}
use Rattle.columns.proofs.joining.join_eight.Goals as goal

pub returns-then-eight_fit : goal.returns-then-eight_fit
unfolding joined_over
returns-then-eight_fit c = pick_passed _ (sym c.eight_fit.ensures ∙ c.if-eight_fit.true) c.join_bytes.ensures

pub returns-else-eight_fit : goal.returns-else-eight_fit
unfolding joined_over
returns-else-eight_fit c = pick_failed _ (sym c.eight_fit.ensures ∙ c.if-eight_fit.false) refl
