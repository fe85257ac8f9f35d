-- `hold`: the first p bytes are those under the mask.
use Rattle.basics.proofs.Fill.{Filled}
use Rattle.strings.specs.Gathered.{under}
use Rattle.strings.proofs.gathering.hold.Given as goal

abbrev pub invariant-loop-p : goal.invariant-loop-p
invariant-loop-p l = Filled (under l.place l.places l.src) l.p l.fn.work l.work
