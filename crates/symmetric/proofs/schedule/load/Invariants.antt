-- `load` gives the schedule's first 16 words, one a turn.
use Rattle.symmetric.specs.Values.{Scheduled}
use Rattle.symmetric.proofs.schedule.load.Given as goal

abbrev pub invariant-loop-t : goal.invariant-loop-t
invariant-loop-t l = Scheduled l.block l.t l.w
