use Rattle.std.proofs.Common.{◌≡◌, ◌≤◌, ◌+◌, ◌-◌, ◌*◌, ℕ, sym, subst, get_or, length-append, length-take, arith}
use native.Mathlib.Nat.{mul-le-mul_right}
use Rattle.strings.specs.Gathered.{Alone}
use Rattle.strings.proofs.Gathered.{alone_half, alone_one, end_within, folded_split}
use Rattle.strings.proofs.folding.fold.Goals as goal

-- both halves stand in the workspace
pub slice_bounds-fold_half-end : goal.slice_bounds-fold_half-end
slice_bounds-fold_half-end c =
    let k = c.loop-k.k in
    let half = c.div_ceil-half.result in
    omega (arith, end_within c.args.shape.bytes half (k - half) c.args.shape.held (omega arith), c.loop-k.invariant.3, c.split_at_mut-front.ensures.back_len)

pub slice_bounds-fold_half-end-in-loop-k : goal.slice_bounds-fold_half-end-in-loop-k
slice_bounds-fold_half-end-in-loop-k c =
    let k = c.loop-k.k in
    let half = c.div_ceil-half.result in
    simp length-take
    (omega (arith, end_within c.args.shape.bytes half (k - half) c.args.shape.held (omega arith), c.loop-k.invariant.3, c.split_at_mut-front.ensures.back_len))

pub loop-k-preserved : goal.loop-k-preserved
loop-k-preserved c =
    let l = c.args.shape.bytes in
    let k = c.loop-k.k in
    let half = c.div_ceil-half.result in
    let parts = c.split_at_mut-front in
    let both : half + (k - half) ≡ k = omega arith in
    let less : (k - half) * l ≤ half * l = mul-le-mul_right l (let q : k - half ≤ half = omega arith in q) in (
      λ s z. alone_half l half (k - half) c.loop-k.work _ (omega arith)
          (folded_split parts.result.0.now parts.result.1.now (half * l) ((k - half) * l) parts.ensures.value parts.ensures.front_len less c.fold_half.ensures)
          s (subst (λ (x : ℕ). Alone l x s (λ p. get_or c.loop-k.work p 0)) (sym both) (c.loop-k.invariant.0 s z)),
      omega arith,
      omega arith,
      omega (arith, length-append c.fold_half.new.front parts.result.1.now, parts.ensures.front_len, parts.ensures.back_len, c.loop-k.invariant.3),
    )

pub returns : goal.returns
returns c =
    let one : c.loop-k.k ≡ 1 = omega arith in
    λ s z. alone_one c.args.shape.bytes s (λ p. get_or c.loop-k.work p 0)
    (subst (λ (x : ℕ). Alone c.args.shape.bytes x s (λ p. get_or c.loop-k.work p 0)) one (c.loop-k.invariant.0 s z))
