-- `fold_half`: the first p bytes are xored, and the others are what they were.
use Rattle.std.proofs.Common.{get_or}
use lib.Bits.{bit_xor}
use Rattle.basics.proofs.Fill.{Filled}
use Rattle.strings.proofs.folding.fold_half.Given as goal

abbrev pub invariant-loop-p : goal.invariant-loop-p
invariant-loop-p l = Filled (λ i. bit_xor (get_or l.fn.front i 0) (get_or l.back i 0)) l.p l.fn.front l.front
