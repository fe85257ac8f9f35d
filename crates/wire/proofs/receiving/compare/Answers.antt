use Rattle.std.proofs.Common.{arith}
use Rattle.basics.proofs.First.{passed_none, passed_more}
use Rattle.basics.proofs.Verdicts.{at_first_here, at_first_end}
use Rattle.wire.proofs.Received.{differs_not, differs_here}
use Rattle.wire.proofs.receiving.compare.Goals as goal

pub loop-i-init : goal.loop-i-init
loop-i-init c = passed_none _ _

pub loop-i-preserved : goal.loop-i-preserved
loop-i-preserved c = passed_more c.loop-i.invariant (omega arith) (differs_not _ _ _ _ c.byte_or_zero.ensures c.byte_or_zero-in-loop-i.ensures c.if-byte_or_zero.false)

pub returns-then-byte_or_zero : goal.returns-then-byte_or_zero
returns-then-byte_or_zero c = at_first_here _ _ c.loop-i.invariant (omega arith) (differs_here _ _ _ _ c.byte_or_zero.ensures c.byte_or_zero-in-loop-i.ensures c.if-byte_or_zero.true) (omega arith)

pub returns : goal.returns
returns c = at_first_end _ _ c.loop-i.invariant (omega arith)
