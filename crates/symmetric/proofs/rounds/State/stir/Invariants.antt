-- `stir` does the 64 rounds, eight a turn; the array holds the schedule two turns ahead, as far as it goes.
use Rattle.std.proofs.Common.{◌≡◌, ◌+◌, ◌-◌, ◌%◌, ◌≤◌, min}
use Rattle.symmetric.specs.Sha.{schedule, rounds}
use Rattle.symmetric.specs.Values.{Scheduled, words}
use Rattle.symmetric.proofs.rounds.State.stir.Given as goal

abbrev pub invariant-loop-t : goal.invariant-loop-t
invariant-loop-t l =
    (l.t ≤ 64)
    × (l.t % 8 ≡ 0)
    × Scheduled l.block (min (l.t + 16) 64) l.w
    × (words l.v ≡ rounds (schedule l.block 64) (words l.initial.v) l.t)

abbrev pub decreases-loop-t : goal.decreases-loop-t
decreases-loop-t l = 64 - l.t
