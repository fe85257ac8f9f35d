-- `word_from`: the first p bytes are filled in order.
use Rattle.basics.proofs.Fill.{Filled}
use Rattle.words.specs.Table.{byte_from}
use Rattle.words.proofs.word_from.Given as goal

abbrev pub invariant-loop-p : goal.invariant-loop-p
invariant-loop-p l = Filled (byte_from l.table l.mode l.r) l.p l.initial.byte-items l.byte-items
