-- `whole` meets its contract. Assumes nothing.
use Rattle.std.proofs.Common.{◌≡◌, ◌/◌, length, arith}
use Rattle.symmetric.specs.Sha.{padded, blocks}
use Rattle.symmetric.proofs.Sha.{block_whole, blocks_more}
use Rattle.symmetric.proofs.message.whole.Goals as goal

pub loop-block-init : goal.loop-block-init
unfolding blocks
loop-block-init c = c.first-h.ensures

pub loop-block-preserved : goal.loop-block-preserved
loop-block-preserved c =
    let m = c.args.input.now in
    let i = c.loop-block.block-index in
    blocks_more (padded m) i c.loop-block.invariant c.compressed-h.ensures (block_whole m i _ c.as_chunks.ensures.front (omega arith))

pub returns : goal.returns
returns c =
    let e : c.loop-block.block-index ≡ length c.args.input.now / 64 = omega arith in
    rw e at c.loop-block.invariant
