-- `judge_first` meets its contract: the header's refusal, or the value's. Assumes nothing.
use mathlib.Core.Path.{ap, ◌∙◌}
use native.Mathlib.Omega.{arith}
use Rattle.basics.proofs.Verdicts.{number_positive, err_exit, stop_by, go_by}
use Rattle.wire.specs.Shapes.{verdict_of}
use Rattle.reading.proofs.walking.judge_first.Goals as goal

pub returns-in_err-check : goal.returns-in_err-check
returns-in_err-check c = err_exit _ _ c.from_residual.ensures.1 (stop_by _ _ _ _ c.has_header.ensures (number_positive _) c.in_err-check.ensures)

pub returns : goal.returns
returns c = go_by _ _ _ _ c.has_header.ensures (omega arith) c.in_ok-check.ensures (c.judge_shape.ensures ∙ ap verdict_of c.shape_in.ensures)
