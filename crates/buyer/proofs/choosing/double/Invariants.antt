-- `double`: the table's front holds the bytes of 2^t + x columns.
use Rattle.std.proofs.Common.{◌+◌}
use Rattle.basics.proofs.Fill.{Filled}
use Rattle.words.specs.Code.{code_of}
use Rattle.buyer.specs.Chosen.{place_byte}
use Rattle.buyer.proofs.choosing.double.Given as goal

abbrev pub invariant-loop-x : goal.invariant-loop-x
invariant-loop-x l = Filled (place_byte (code_of l.mode) l.rows 0) (l.half + l.x) l.initial.table l.table
