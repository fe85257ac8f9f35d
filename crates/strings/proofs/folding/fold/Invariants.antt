-- `fold`: what stood alone among the strings held stands alone among the first k.
use Rattle.std.proofs.Common.{◌≡◌, ◌≤◌, ◌*◌, ℕ, length, get_or}
use Rattle.strings.specs.Gathered.{Alone}
use Rattle.strings.proofs.folding.fold.Given as goal

abbrev pub invariant-loop-k : goal.invariant-loop-k
invariant-loop-k l =
    ((s : ℕ → ℕ) → Alone l.shape.bytes l.shape.held s (λ p. get_or l.fn.work p 0) → Alone l.shape.bytes l.k s (λ p. get_or l.work p 0))
    × (1 ≤ l.k)
    × (l.k ≤ l.shape.held)
    × (length l.work ≡ l.shape.held * l.shape.bytes)

abbrev pub decreases-loop-k : goal.decreases-loop-k
decreases-loop-k l = l.k
