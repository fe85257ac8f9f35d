-- `judge_selections` meets its contract: the verdict of `at_first`, from what `first_large` found. Assumes nothing.
use Rattle.std.proofs.Common.{◌∙◌}
use native.Mathlib.Nat.{zero-add}
use Rattle.basics.specs.Verdicts.{at_first}
use Rattle.buyer.specs.Selections.{selections_verdict}
use Rattle.buyer.proofs.judging.judge_selections.Goals as goal

pub returns : goal.returns
unfolding selections_verdict at_first
returns c = c.check.ensures ∙ rw (c.first_large-row.ensures, c.from-m.ensures, zero-add)
