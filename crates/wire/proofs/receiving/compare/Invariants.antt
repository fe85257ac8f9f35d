use Rattle.basics.proofs.First.{Passed}
use Rattle.wire.specs.Received.{differs}
use Rattle.wire.proofs.receiving.compare.Given as goal

-- no byte before i differs
abbrev pub invariant-loop-i : goal.invariant-loop-i
invariant-loop-i l = Passed (differs l.message l.at l.value) l.i l.n
