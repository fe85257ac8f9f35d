-- `take`: the first p bytes are those of what is taken.
use Rattle.basics.proofs.Fill.{Filled}
use Rattle.outside.specs.Taken.{taken_byte}
use Rattle.outside.proofs.taking.take.Given as goal

abbrev pub invariant-loop-p : goal.invariant-loop-p
invariant-loop-p l = Filled (taken_byte l.width l.secret l.first l.second) l.p l.fn.taken l.taken
