-- `add_table`: the table was added to byte b of the columns below i.
use Rattle.std.proofs.Common.{get_or}
use Rattle.buyer.proofs.Chosen.{Added}
use Rattle.buyer.proofs.choosing.add_table.Given as goal

abbrev pub invariant-loop-i : goal.invariant-loop-i
invariant-loop-i l = Added (λ x. get_or l.table x 0) l.c l.b l.i l.initial.block l.block
