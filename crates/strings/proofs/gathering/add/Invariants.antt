-- `add`: the first p bytes are written, and the others are what they were.
use Rattle.basics.proofs.Fill.{Filled}
use Rattle.strings.proofs.Gathered.{added_at}
use Rattle.strings.proofs.gathering.add.Given as goal

abbrev pub invariant-loop-p : goal.invariant-loop-p
invariant-loop-p l = Filled (added_at l.place l.other l.places l.src l.more l.fn.work) l.p l.fn.work l.work
