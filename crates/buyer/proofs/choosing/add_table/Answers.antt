-- `add_table` meets its contract: byte b of column i stands at i * c + b. Assumes nothing.
use Rattle.std.proofs.Common.{refl, arith}
use lib.Arith.{digits_lt}
use Rattle.buyer.proofs.Chosen.{added_more, added_end}
use Rattle.buyer.proofs.choosing.add_table.Goals as goal

pub loop-i-preserved : goal.loop-i-preserved
loop-i-preserved c =
    let pre = c.requires in
    added_more c.loop-i.invariant pre.0 refl (rw pre.3 (digits_lt c.loop-i-test.true pre.0)) refl

pub returns : goal.returns
returns c = added_end c.loop-i.invariant (omega arith) c.requires.3
