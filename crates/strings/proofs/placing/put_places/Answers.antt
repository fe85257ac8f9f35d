use Rattle.std.proofs.Common.{◌≡◌, ◌≤◌, ◌<◌, ◌*◌, ◌/◌, ℕ, ap, sym, arith}
use native.Mathlib.Nat.{mul-le-mul_right, div-lt_iff_lt-mul}
use Rattle.basics.proofs.Bytes.{build_is, pos_right}
use Rattle.strings.proofs.Gathered.{end_within}
use Rattle.strings.proofs.Placed.{places_first, places_more}
use Rattle.strings.proofs.placing.put_places.Goals as goal

pub loop-k-init : goal.loop-k-init
loop-k-init c = (places_first c.args.shape.bytes c.args.places.now c.requires.zeros, omega arith, omega arith, omega arith)

pub put_on-requires-clause-inside : goal.put_on-requires-clause-inside
put_on-requires-clause-inside c =
    omega (arith, end_within c.args.shape.bytes c.loop-k.k c.min-more.result c.args.shape.held (omega arith), c.loop-k.invariant.3)

-- the greatest place so far, and k more, is a place below the number of strings
pub put_on-requires-clause-small : goal.put_on-requires-clause-small
put_on-requires-clause-small c =
    let l = c.args.shape.bytes in
    let more = c.min-more.result in
    λ p h.
    let row : p / l < more = (div-lt_iff_lt-mul (pos_right p more l h)).1 h in
    let less : more * l ≤ c.loop-k.k * l = mul-le-mul_right l (let q : more ≤ c.loop-k.k = omega arith in q) in
    omega (arith, c.loop-k.invariant.0 p (omega arith))

pub loop-k-preserved : goal.loop-k-preserved
loop-k-preserved c =
    let l = c.args.shape.bytes in
    let k = c.loop-k.k in
    let more = c.min-more.result in
    let less : more * l ≤ k * l = mul-le-mul_right l (let q : more ≤ k = omega arith in q) in (
      places_more l k more c.loop-k.places c.put_on.new.places less c.loop-k.invariant.0 c.put_on.ensures.put c.put_on.ensures.before,
      omega arith,
      omega arith,
      omega arith,
    )

pub returns : goal.returns
returns c =
    let a = c.args.shape in
    let all : c.loop-k.k ≡ a.held = omega arith in
    sym
    (build_is (a.held * a.bytes) _ c.loop-k.places c.loop-k.invariant.3
    (λ p h. sym (c.loop-k.invariant.0 p (omega (arith, ap (λ (x : ℕ). x * a.bytes) all)))))
