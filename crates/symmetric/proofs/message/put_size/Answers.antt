-- `put_size`: what is written is the length in bits, and the block's first 56 bytes stay. Assumes nothing.
use Rattle.std.proofs.Common.{ap, ◌∙◌}
use borrow.Rule.Slice.PartMut.{put_mid}
use Rattle.symmetric.specs.Sha.{be64}
use Rattle.symmetric.proofs.Sha.{sized_is}
use Rattle.symmetric.proofs.message.put_size.Goals as goal

pub returns : goal.returns
unfolding be64
returns c =
    ap (put_mid 56 8 c.args.block.now) (c.copy_from_slice.ensures.after ∙ c.to_be_bytes.ensures) ∙ sized_is c.args.block.now _ c.told-block
