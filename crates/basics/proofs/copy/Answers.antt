use Rattle.std.proofs.Common.{refl, arith}
use Rattle.basics.proofs.Fill.{filled_none, filled_more, filled_copy}
use Rattle.basics.proofs.copy.Goals as goal

pub loop-i-init : goal.loop-i-init
loop-i-init c = filled_none _ _

pub loop-i-preserved : goal.loop-i-preserved
loop-i-preserved c = filled_more c.loop-i.invariant (omega arith) refl

pub returns : goal.returns
returns c = filled_copy _ c.loop-i.invariant (omega arith)
