-- `give_rows` gives each row its bytes below g.
use Rattle.basics.specs.Bytes.{bit_in, lines}
use Rattle.basics.specs.Padding.{col_bytes}
use Rattle.columns.proofs.Gathered.{Rowed}
use Rattle.columns.proofs.rows.give_rows.Given as goal

abbrev pub invariant-loop-g : goal.invariant-loop-g
invariant-loop-g l = Rowed l.width l.g (lines l.rows l.width (λ j i. bit_in (col_bytes l.rows) l.columns i j)) l.fn.out l.out
