-- `give_word` gives the first i rows their byte g, and changes no other byte.
use Rattle.columns.specs.Turned.{byte_of}
use Rattle.columns.proofs.Gathered.{Given}
use Rattle.columns.proofs.rows.give_word.Given as goal

abbrev pub invariant-loop-i : goal.invariant-loop-i
invariant-loop-i l = Given (byte_of l.w) l.width l.g l.i l.fn.out l.out
