-- The first p bytes of the word AND the secret stand in their place.
use Rattle.std.proofs.Common.{get_or}
use Rattle.std.specs.Int.Bits.{bit_and}
use Rattle.basics.proofs.Fill.{Filled}
use Rattle.words.specs.Code.{code_of, word_bytes}
use Rattle.supplier.proofs.masking.masked_word.Given as goal

abbrev pub invariant-loop-p : goal.invariant-loop-p
invariant-loop-p l = Filled (λ i. bit_and (get_or (word_bytes (code_of l.mode) l.r) i 0) (get_or l.secret i 0)) l.p l.initial.word l.word
