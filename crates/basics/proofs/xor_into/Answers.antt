use Rattle.std.proofs.Common.{ℕ, get_or, ap, arith}
use Rattle.std.specs.Int.Bits.{bit_xor}
use Rattle.basics.proofs.Fill.{filled_none, filled_here, filled_more, filled_xor}
use Rattle.basics.proofs.xor_into.Goals as goal

pub loop-i-init : goal.loop-i-init
loop-i-init c = filled_none _ _

pub loop-i-preserved : goal.loop-i-preserved
loop-i-preserved c =
    let l = c.loop-i in
    filled_more l.invariant (omega arith) (ap (λ (x : ℕ). bit_xor x (get_or c.args.src.now l.i 0)) (filled_here l.invariant))

pub returns : goal.returns
returns c = filled_xor _ c.loop-i.invariant (omega arith)
