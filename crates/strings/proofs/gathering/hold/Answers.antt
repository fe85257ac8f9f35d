use Rattle.std.proofs.Common.{refl, ap, get_or, arith}
use lib.Bits.{bit_and}
use Rattle.basics.proofs.Fill.{filled_none, filled_more, filled_end}
use Rattle.strings.proofs.gathering.hold.Goals as goal

pub loop-p-init : goal.loop-p-init
loop-p-init c = filled_none _ _

pub loop-p-preserved : goal.loop-p-preserved
loop-p-preserved c =
    let z = c.loop-p.invariant in
    filled_more z (omega (arith, z.long)) (ap (bit_and (get_or c.args.src.now c.loop-p.p 0)) c.equal.ensures)

pub returns : goal.returns
returns c = filled_end c.loop-p.invariant refl (omega (arith, c.loop-p.invariant.long))
