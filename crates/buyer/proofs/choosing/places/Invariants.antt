-- `places`: the byte holds the places of the first e rows.
use Rattle.std.proofs.Common.{◌≡◌}
use Rattle.basics.specs.Bytes.{pack}
use Rattle.words.specs.Code.{code_of}
use Rattle.buyer.proofs.Chosen.{row_place}
use Rattle.buyer.proofs.choosing.places.Given as goal

abbrev pub invariant-loop-e : goal.invariant-loop-e
invariant-loop-e l = l.byte ≡ pack l.e (row_place (code_of l.mode) l.rows l.i)
