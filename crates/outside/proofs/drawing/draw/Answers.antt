use Rattle.std.proofs.Common.{◌≡◌, ℕ, ◌%◌, length, refl, ap, ◌∙◌, arith}
use Rattle.basics.proofs.Fill.{filled_none, filled_more, filled_end}
use Rattle.outside.specs.Drawn.{state_after}
use Rattle.outside.proofs.Drawn.{state_none, state_more}
use Rattle.outside.proofs.drawing.draw.Goals as goal

pub loop-byte-init : goal.loop-byte-init
loop-byte-init c = (state_none _, filled_none _ _)

pub loop-byte-preserved : goal.loop-byte-preserved
loop-byte-preserved c =
    let l = c.loop-byte.invariant in
    let s = state_more _ _ l.0 c.step-state.ensures in
    (s, filled_more l.1 (omega (arith, l.1.long)) (ap (λ (x : ℕ). x % 256) s))

pub returns : goal.returns
returns c =
    let l = c.loop-byte.invariant in
    let all : c.loop-byte.byte-index ≡ length c.args.out.now = omega (arith, l.1.long) in
    record { state = l.0 ∙ ap (state_after _) all; bytes = filled_end l.1 refl (omega arith) }
