use Rattle.basics.specs.Padding.{padded}
use Rattle.basics.proofs.First.{Passed}
use Rattle.basics.proofs.first_padded.Given as goal

-- no column before i has padding set
abbrev pub invariant-loop-i : goal.invariant-loop-i
invariant-loop-i l = Passed (padded l.rows l.set) l.i l.columns
