use Rattle.std.proofs.Common.{get_or}
use Rattle.std.specs.Int.Bits.{bit_xor}
use Rattle.basics.proofs.Fill.{Filled}
use Rattle.basics.proofs.xor_into.Given as goal

-- the first i bytes are xored, the others are as they were
abbrev pub invariant-loop-i : goal.invariant-loop-i
invariant-loop-i l = Filled (λ p. bit_xor (get_or l.initial.out p 0) (get_or l.src p 0)) l.i l.initial.out l.out
