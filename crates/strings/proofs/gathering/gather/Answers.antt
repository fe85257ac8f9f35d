use Rattle.std.proofs.Common.{◌≡◌, ◌≤◌, ◌+◌, ◌-◌, ◌*◌, ◌/◌, ◌++◌, ℕ, List, refl, ap, sym, subst, ◌∙◌, length, get_or, take, drop, length-take, length-drop, length-append, arith}
use Rattle.basics.specs.Bytes.{build}
use native.Mathlib.Nat.{add-mul, mul-le-mul_right}
use Rattle.basics.proofs.Bytes.{length-build}
use Rattle.strings.proofs.Gathered.{Over, hold_over, pair_over, last_over, over_end, end_within}
use Rattle.strings.proofs.gathering.gather.Goals as goal

places_long : (l h : ℕ) {places : List ℕ} → places ≡ build (h * l) (λ p. p / l) → length places ≡ h * l
places_long l h {places} e = ap length e ∙ length-build (h * l) _

-- a workspace of which the front was lent has its length again
back_long : (k : ℕ) {n : ℕ} (work ys : List ℕ) → k ≤ n → length work ≡ n → length ys ≡ length (take k work) → length (ys ++ drop k work) ≡ n
back_long k {n} work ys h long e = simp (length-append, length-drop) (omega (arith, length-take k work))

pub hold-requires-clause-places : goal.hold-requires-clause-places
hold-requires-clause-places c = omega (arith, c.requires.work, places_long _ _ c.requires.places)

pub loop-i-init : goal.loop-i-init
loop-i-init c =
    let a = c.args in (
      hold_over a.shape.bytes a.shape.held a.r a.places.now a.row.now c.requires.places (λ q. omega (arith, c.type_inv.row q)) (omega arith) c.front.result a.work.now
          c.requires.work c.front.ensures (omega arith) c.hold.ensures,
      omega arith,
      omega arith,
      omega arith,
    )

pub slice_bounds-add-end : goal.slice_bounds-add-end
slice_bounds-add-end c =
    omega (arith, end_within c.args.shape.bytes c.loop-i.i c.min-count.result c.args.shape.strings (omega arith), c.requires.row)

pub slice_bounds-add-end-then-shape-next : goal.slice_bounds-add-end-then-shape-next
slice_bounds-add-end-then-shape-next c =
    let l = c.args.shape.bytes in
    let i = c.loop-i.i in
    let count = c.min-count.result in
    omega (arith, add-mul i count l, end_within l (i + count) count c.args.shape.strings (omega arith), c.requires.row)

pub add-requires-clause-places : goal.add-requires-clause-places
add-requires-clause-places c = simp length-take (omega (arith, c.loop-i.invariant.3, places_long _ _ c.requires.places))

pub loop-i-preserved-then-shape-next : goal.loop-i-preserved-then-shape-next
loop-i-preserved-then-shape-next c =
    let a = c.args in
    let l = a.shape.bytes in
    let i = c.loop-i.i in
    let count = c.min-count.result in
    let len : ℕ = count * l in
    let b : ℕ = i * l + len in
    let few : count ≤ a.shape.held = omega arith in
    let start : b ≡ (i + count) * l = sym (add-mul i count l) in (
      pair_over l a.shape.held a.r a.places.now a.row.now c.requires.places (λ q. omega (arith, c.type_inv.row q)) (omega arith)
          i (i + count) count (i * l) (b - i * l) len b (b + len - b) c.counted_from.result c.counted_from-then-shape-next.result
          c.loop-i.work c.add.new.work c.loop-i.invariant.3 few refl (omega arith) refl start (omega arith)
          c.counted_from.ensures c.add.ensures
          (omega arith) refl c.counted_from-then-shape-next.ensures (omega arith) c.loop-i.invariant.0,
      omega arith,
      omega arith,
      back_long len _ _ (mul-le-mul_right l few) c.loop-i.invariant.3 c.add.auto.work,
    )

pub slice_bounds-add-end-else-shape-next : goal.slice_bounds-add-end-else-shape-next
slice_bounds-add-end-else-shape-next c =
    omega (arith, end_within c.args.shape.bytes c.loop-i.i c.min-count.result c.args.shape.strings (omega arith), c.requires.row)

pub add-requires-else-shape-next-clause-places : goal.add-requires-else-shape-next-clause-places
add-requires-else-shape-next-clause-places c = simp length-take (omega (arith, c.loop-i.invariant.3, places_long _ _ c.requires.places))

pub loop-i-preserved : goal.loop-i-preserved
loop-i-preserved c =
    let a = c.args in
    let l = a.shape.bytes in
    let i = c.loop-i.i in
    let count = c.min-count.result in
    let len : ℕ = count * l in
    let b : ℕ = i * l + len in
    let few : count ≤ a.shape.held = omega arith in (
      last_over l a.shape.held a.r a.places.now a.row.now c.requires.places (λ q. omega (arith, c.type_inv.row q)) (omega arith)
          i i count (i * l) (b - i * l) len (i * l) (b - i * l) c.counted_from-else-shape-next.result 255
          c.loop-i.work c.add-else-shape-next.new.work c.loop-i.invariant.3 few refl (omega arith) refl refl (omega arith)
          c.counted_from-else-shape-next.ensures c.add-else-shape-next.ensures
          refl (omega arith) (omega arith) c.loop-i.invariant.0,
      omega arith,
      omega arith,
      back_long len _ _ (mul-le-mul_right l few) c.loop-i.invariant.3 c.add-else-shape-next.auto.work,
    )

pub returns : goal.returns
returns c =
    let a = c.args in
    let all : c.loop-i.i ≡ a.shape.strings = omega arith in
    over_end a.shape.bytes a.shape.held a.r a.row.now a.shape.strings c.requires.row a.shape.some
    (subst (λ (x : ℕ). Over a.shape.bytes a.shape.held a.r a.row.now x (λ q. get_or c.loop-i.work q 0)) all c.loop-i.invariant.0)
