-- `masked_word` meets its contract: byte after byte of the word AND the secret. Assumes nothing.
use Rattle.std.proofs.Common.{refl, ap₂, arith, rules}
use Rattle.std.specs.Int.Bits.{bit_and}
use Rattle.basics.proofs.Fill.{filled_none, filled_more, filled_end}
use Rattle.supplier.proofs.masking.masked_word.Goals as goal

pub loop-p-init : goal.loop-p-init
loop-p-init c = filled_none _ _

pub loop-p-preserved : goal.loop-p-preserved
loop-p-preserved c = filled_more c.loop-p.invariant (search rules) (ap₂ bit_and c.selected_byte.ensures c.byte_or_zero.ensures)

pub returns : goal.returns
returns c = filled_end c.loop-p.invariant refl (omega arith)
