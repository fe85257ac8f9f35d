use Rattle.std.proofs.Common.{refl, arith}
use Rattle.basics.proofs.Fill.{filled_none, filled_more, filled_end}
use Rattle.outside.specs.Taken.{taken_set}
use Rattle.outside.proofs.taking.take.Goals as goal

pub loop-p-init : goal.loop-p-init
loop-p-init c = filled_none _ _

pub loop-p-preserved : goal.loop-p-preserved
loop-p-preserved c = filled_more c.loop-p.invariant (omega (arith, c.loop-p.invariant.long)) c.taken_byte.ensures

pub returns : goal.returns
unfolding taken_set
returns c = filled_end c.loop-p.invariant refl (omega (arith, c.loop-p.invariant.long))
