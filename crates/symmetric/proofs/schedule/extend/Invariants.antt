-- `extend`: after i turns the array holds the schedule i words further.
use Rattle.std.proofs.Common.{ℕ, ◌+◌, List}
use Rattle.symmetric.specs.Values.{Scheduled}
use Rattle.symmetric.proofs.schedule.extend.Given as goal

abbrev pub invariant-loop-i : goal.invariant-loop-i
invariant-loop-i l = (bs : List ℕ) → Scheduled bs l.t l.initial.w → Scheduled bs (l.t + l.i) l.w
