-- `gather`: the first i strings are gone over.
use Rattle.std.proofs.Common.{◌≡◌, ◌≤◌, ◌-◌, ◌*◌, length, get_or}
use Rattle.strings.proofs.Gathered.{Over}
use Rattle.strings.proofs.gathering.gather.Given as goal

abbrev pub invariant-loop-i : goal.invariant-loop-i
invariant-loop-i l =
    Over l.shape.bytes l.shape.held l.r l.row l.i (λ p. get_or l.work p 0)
    × (l.shape.held ≤ l.i)
    × (l.i ≤ l.shape.strings)
    × (length l.work ≡ l.shape.held * l.shape.bytes)

abbrev pub decreases-loop-i : goal.decreases-loop-i
decreases-loop-i l = l.shape.strings - l.i
