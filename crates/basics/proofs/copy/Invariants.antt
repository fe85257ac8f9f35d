use Rattle.std.proofs.Common.{get_or}
use Rattle.basics.proofs.Fill.{Filled}
use Rattle.basics.proofs.copy.Given as goal

-- the first i bytes are those of src, the others are as they were
abbrev pub invariant-loop-i : goal.invariant-loop-i
invariant-loop-i l = Filled (λ p. get_or l.src p 0) l.i l.initial.out l.out
