use Rattle.std.proofs.Common.{ℕ, refl, ap, ap₂, ◌∙◌, get_or, arith}
use lib.Bits.{bit_xor, bit_and}
use Rattle.basics.proofs.Fill.{filled_none, filled_here, filled_more, filled_end}
use Rattle.strings.proofs.Gathered.{added_is}
use Rattle.strings.proofs.gathering.add.Goals as goal

pub loop-p-init : goal.loop-p-init
loop-p-init c = filled_none _ _

pub loop-p-preserved : goal.loop-p-preserved
loop-p-preserved c =
    let z = c.loop-p.invariant in
    let a = c.args in
    let p = c.loop-p.p in
    filled_more z (omega (arith, z.long))
    (ap₂ bit_xor (ap₂ (λ (x y : ℕ). bit_xor x (bit_and (get_or a.src.now p 0) y)) (filled_here z) c.equal.ensures)
    (ap (bit_and (get_or a.more.now p 0)) c.equal-in-loop-p.ensures))

pub returns : goal.returns
returns c =
    let a = c.args in
    filled_end c.loop-p.invariant refl (omega (arith, c.loop-p.invariant.long)) ∙ added_is a.place a.other a.places.now a.src.now a.more.now a.work.now
