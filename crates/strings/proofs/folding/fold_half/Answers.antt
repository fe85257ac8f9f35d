use Rattle.std.proofs.Common.{ap, get_or, arith}
use lib.Bits.{bit_xor}
use Rattle.basics.proofs.Fill.{filled_none, filled_here, filled_more, filled_xor}
use Rattle.strings.proofs.folding.fold_half.Goals as goal

pub loop-p-init : goal.loop-p-init
loop-p-init c = filled_none _ _

pub loop-p-preserved : goal.loop-p-preserved
loop-p-preserved c =
    let z = c.loop-p.invariant in
    filled_more z (omega (arith, z.long)) (ap (λ x. bit_xor x (get_or c.args.back.now c.loop-p.p 0)) (filled_here z))

pub returns : goal.returns
returns c = filled_xor c.args.back.now c.loop-p.invariant (omega arith)
