-- `fill_table` meets its contract: one column's byte is doubled until the table holds k. Assumes nothing.
use Rattle.std.proofs.Common.{sym, arith}
use lib.Pow.{pow-lt}
use Rattle.words.specs.Code.{code_of}
use Rattle.buyer.proofs.Chosen.{begins_one, k_some}
use Rattle.buyer.proofs.choosing.fill_table.Goals as goal

pub places-requires : goal.places-requires
places-requires c = k_some c.args.mode

pub loop-t-init : goal.loop-t-init
loop-t-init c =
    let s = c.args in
    begins_one (code_of s.mode) s.rows.now 0 _ c.args.table.now (omega arith) c.places.ensures

pub double-requires-clause-half : goal.double-requires-clause-half
double-requires-clause-half c = rw (sym c.doublings-t-end.ensures.0) (pow-lt c.loop-t-test.true)
