-- `put_on`: p bytes are put from `at` on, and no other byte changed.
use Rattle.std.proofs.Common.{◌≡◌, ◌≤◌, ◌<◌, ◌+◌, ℕ, get_or}
use Rattle.strings.proofs.placing.put_on.Given as goal

abbrev pub invariant-loop-p : goal.invariant-loop-p
invariant-loop-p l =
    ((q : ℕ) → q < l.p → get_or l.places (l.at + q) 0 ≡ get_or l.fn.places q 0 + l.by)
    × ((q : ℕ) → q < l.at → get_or l.places q 0 ≡ get_or l.fn.places q 0)
    × ((q : ℕ) → l.at + l.len ≤ q → get_or l.places q 0 ≡ get_or l.fn.places q 0)
