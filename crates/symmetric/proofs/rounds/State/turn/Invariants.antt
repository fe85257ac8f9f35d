-- `turn`: after i turns of its own the variables are i rounds further.
use Rattle.std.proofs.Common.{◌≡◌, ℕ, ◌+◌, ◌≤◌, List}
use Rattle.symmetric.specs.Sha.{schedule, rounds}
use Rattle.symmetric.specs.Values.{Scheduled, words}
use Rattle.symmetric.proofs.rounds.State.turn.Given as goal

abbrev pub invariant-loop-i : goal.invariant-loop-i
invariant-loop-i l = (bs h : List ℕ) (n : ℕ) → Scheduled bs n l.w → l.t + 8 ≤ n → n ≤ 64
    → words l.initial.v ≡ rounds (schedule bs 64) h l.t → words l.v ≡ rounds (schedule bs 64) h (l.t + l.i)
