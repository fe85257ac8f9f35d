-- `keystream` meets its contract: the second block stands whole behind the first. Assumes nothing.
use Rattle.std.proofs.Common.{arith}
use Rattle.columns.proofs.Sets.{one_block, two_blocks}
use Rattle.columns.proofs.adding.keystream.Goals as goal

pub returns-then-c-gt64 : goal.returns-then-c-gt64
returns-then-c-gt64 c = two_blocks c.args.seed.now c.args.session.now c.args.c _ (omega arith) c.put_block.ensures c.put_block-then-c-gt64.ensures

pub returns-else-c-gt64 : goal.returns-else-c-gt64
returns-else-c-gt64 c = one_block c.args.seed.now c.args.session.now c.args.c _ (omega arith) c.put_block.ensures
