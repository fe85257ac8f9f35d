-- `put_places`: the bytes of the first k strings have their places.
use Rattle.std.proofs.Common.{◌≡◌, ◌≤◌, ◌<◌, ◌-◌, ◌*◌, ◌/◌, ℕ, length, get_or}
use Rattle.strings.proofs.placing.put_places.Given as goal

abbrev pub invariant-loop-k : goal.invariant-loop-k
invariant-loop-k l =
    ((p : ℕ) → p < l.k * l.shape.bytes → get_or l.places p 0 ≡ p / l.shape.bytes)
    × (1 ≤ l.k)
    × (l.k ≤ l.shape.held)
    × (length l.places ≡ l.shape.held * l.shape.bytes)

abbrev pub decreases-loop-k : goal.decreases-loop-k
decreases-loop-k l = l.shape.held - l.k
