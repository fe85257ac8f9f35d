-- `put_block` meets its contract: the cipher refuses none of these lengths. Assumes nothing.
use Rattle.std.proofs.Common.{arith}
use Rattle.columns.proofs.Sets.{block-given}
use Rattle.columns.proofs.adding.put_block.Goals as goal

pub returns : goal.returns
returns c = block-given _ _ _ _ c.block.ensures (omega arith) (omega arith) (omega arith)
