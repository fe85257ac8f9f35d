-- `straight` and `flipped`, which call each other, meet their contracts: one law says what two written halves make.
use Rattle.std.proofs.Common.{◌≡◌, ◌∙◌, ◌-◌, ◌<◌, ℕ, length, refl, sym, ap, arith}
use native.Mathlib.Nat.{pos_of_ne-zero}
use Rattle.words.specs.Halving.{straight_word, flipped_word}
use Rattle.words.proofs.TwoHalves.{half_of, half_pos, one_place, front_length, back_length, ends_same, ends_other}
use Rattle.words.proofs.halving.+flipped_straight.Goals as goal

less : (q t : ℕ) → q ≡ t → (q ≡ 0 → ⊥) → q - 1 < t
less q t e ne = let p : 0 < q = pos_of_ne-zero ne in omega arith

pub flipped-returns-then-q-eq0 : goal.flipped-returns-then-q-eq0
unfolding straight_word
flipped-returns-then-q-eq0 t c = one_place c.args.buf.now 1 c.args.q c.requires c.if-q-eq0.true ∙ ap (λ (q : ℕ). flipped_word q c.args.r) (sym c.if-q-eq0.true)

pub flipped-nonzero_rem-h : goal.flipped-nonzero_rem-h
flipped-nonzero_rem-h t c = half_pos _ c.args.q c.requires c.if-q-eq0.false

pub flipped-nonzero_div-r : goal.flipped-nonzero_div-r
flipped-nonzero_div-r t c = half_pos _ c.args.q c.requires c.if-q-eq0.false

pub flipped-flipped-requires : goal.flipped-flipped-requires
flipped-flipped-requires t c = (less c.args.q t c.decreases c.if-q-eq0.false, front_length c.args.buf.now ∙ half_of (length c.args.buf.now) c.args.q c.requires c.if-q-eq0.false)

pub flipped-flipped-requires-then-r-half-eq0 : goal.flipped-flipped-requires-then-r-half-eq0
flipped-flipped-requires-then-r-half-eq0 t c = (less c.args.q t c.decreases c.if-q-eq0.false, back_length c.args.buf.now c.flipped.new.buf c.args.q c.requires c.if-q-eq0.false c.flipped.auto.buf)

pub flipped-straight-requires : goal.flipped-straight-requires
flipped-straight-requires t c = (less c.args.q t c.decreases c.if-q-eq0.false, back_length c.args.buf.now c.flipped.new.buf c.args.q c.requires c.if-q-eq0.false c.flipped.auto.buf)

pub flipped-returns-then-r-half-eq0 : goal.flipped-returns-then-r-half-eq0
unfolding straight_word
flipped-returns-then-r-half-eq0 t c =
    let f = c.flipped in
    let g = c.flipped-then-r-half-eq0 in
    ends_same flipped_word straight_word (λ k r. refl) c.args.buf.now f.new.buf g.new.buf c.args.q c.args.r c.requires c.if-q-eq0.false f.auto.buf f.ensures g.ensures c.if-r-half-eq0.true

pub flipped-returns-else-r-half-eq0 : goal.flipped-returns-else-r-half-eq0
unfolding straight_word
flipped-returns-else-r-half-eq0 t c =
    let f = c.flipped in
    let g = c.straight in
    ends_other flipped_word straight_word (λ k r. refl) c.args.buf.now f.new.buf g.new.buf c.args.q c.args.r c.requires c.if-q-eq0.false f.auto.buf f.ensures g.ensures c.if-r-half-eq0.false

pub straight-returns-then-q-eq0 : goal.straight-returns-then-q-eq0
unfolding straight_word
straight-returns-then-q-eq0 t c = one_place c.args.buf.now 0 c.args.q c.requires c.if-q-eq0.true ∙ ap (λ (q : ℕ). straight_word q c.args.r) (sym c.if-q-eq0.true)

pub straight-nonzero_rem-h : goal.straight-nonzero_rem-h
straight-nonzero_rem-h t c = half_pos _ c.args.q c.requires c.if-q-eq0.false

pub straight-nonzero_div-r : goal.straight-nonzero_div-r
straight-nonzero_div-r t c = half_pos _ c.args.q c.requires c.if-q-eq0.false

pub straight-straight-requires : goal.straight-straight-requires
straight-straight-requires t c = (less c.args.q t c.decreases c.if-q-eq0.false, front_length c.args.buf.now ∙ half_of (length c.args.buf.now) c.args.q c.requires c.if-q-eq0.false)

pub straight-straight-requires-then-r-half-eq0 : goal.straight-straight-requires-then-r-half-eq0
straight-straight-requires-then-r-half-eq0 t c = (less c.args.q t c.decreases c.if-q-eq0.false, back_length c.args.buf.now c.straight.new.buf c.args.q c.requires c.if-q-eq0.false c.straight.auto.buf)

pub straight-flipped-requires : goal.straight-flipped-requires
straight-flipped-requires t c = (less c.args.q t c.decreases c.if-q-eq0.false, back_length c.args.buf.now c.straight.new.buf c.args.q c.requires c.if-q-eq0.false c.straight.auto.buf)

pub straight-returns-then-r-half-eq0 : goal.straight-returns-then-r-half-eq0
unfolding straight_word
straight-returns-then-r-half-eq0 t c =
    let f = c.straight in
    let g = c.straight-then-r-half-eq0 in
    ends_same straight_word flipped_word (λ k r. refl) c.args.buf.now f.new.buf g.new.buf c.args.q c.args.r c.requires c.if-q-eq0.false f.auto.buf f.ensures g.ensures c.if-r-half-eq0.true

pub straight-returns-else-r-half-eq0 : goal.straight-returns-else-r-half-eq0
unfolding straight_word
straight-returns-else-r-half-eq0 t c =
    let f = c.straight in
    let g = c.flipped in
    ends_other straight_word flipped_word (λ k r. refl) c.args.buf.now f.new.buf g.new.buf c.args.q c.args.r c.requires c.if-q-eq0.false f.auto.buf f.ensures g.ensures c.if-r-half-eq0.false
