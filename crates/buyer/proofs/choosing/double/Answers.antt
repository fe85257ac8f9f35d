-- `double` meets its contract: places 2^t + x and x differ by the places 2^t and 0. Assumes nothing.
use Rattle.std.proofs.Common.{◌≡◌, ◌+◌, ◌^◌, ℕ, refl, sym, ap, ap₂, ◌∙◌, arith}
use Rattle.std.specs.Int.Bits.{bit_xor}
use lib.Pow.{pow_pos}
use Rattle.basics.proofs.Fill.{filled_new}
use Rattle.words.specs.Code.{code_of}
use Rattle.buyer.specs.Chosen.{place_byte}
use Rattle.buyer.proofs.Chosen.{place_turned, filled_front, filled_step, half_is}
use Rattle.buyer.proofs.choosing.double.Goals as goal

pub loop-x-init : goal.loop-x-init
loop-x-init c =
    let half = half_is c.args.t c.requires.few in
    filled_front (omega (arith, half.0)) (omega (arith, c.requires.front.long, half.1)) c.requires.front.front

pub loop-x-preserved : goal.loop-x-preserved
loop-x-preserved c =
    let s = c.args in
    let f = place_byte (code_of s.mode) s.rows.now 0 in
    let t = c.args.t in
    let x = c.loop-x.x in
    let half = half_is t c.requires.few in
    let front = filled_front {f = f} refl (omega (arith, c.requires.front.long, half.1)) c.requires.front.front in
    let turn : bit_xor c.places.result _ ≡ bit_xor (f (2 ^ t)) (f 0) = ap₂ bit_xor (c.places.ensures ∙ ap f half.0) (filled_new front 0 (pow_pos t)) in
    filled_step c.loop-x.invariant (omega arith) (omega (arith, c.requires.front.long, half.0, half.1))
    (ap₂ bit_xor (filled_new c.loop-x.invariant x (omega (arith, half.0, pow_pos t))) turn
    ∙ sym (ap (λ (h : ℕ). f (h + x)) half.0 ∙ place_turned s.mode s.rows.now 0 t x (omega (arith, half.0))))
