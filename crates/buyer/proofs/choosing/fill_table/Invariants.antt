-- `fill_table`: the table begins with the bytes of 2^t columns.
use Rattle.std.proofs.Common.{◌^◌}
use Rattle.words.specs.Code.{code_of}
use Rattle.buyer.specs.Chosen.{Begins}
use Rattle.buyer.proofs.choosing.fill_table.Given as goal

abbrev pub invariant-loop-t : goal.invariant-loop-t
invariant-loop-t l = Begins (code_of l.mode) l.rows 0 (2 ^ l.t) l.table
