-- `whole`: after i turns the hash value is that of i blocks.
use Rattle.std.proofs.Common.{◌≡◌}
use Rattle.symmetric.specs.Sha.{padded, blocks}
use Rattle.symmetric.specs.Values.{words}
use Rattle.symmetric.proofs.message.whole.Given as goal

abbrev pub invariant-loop-block : goal.invariant-loop-block
invariant-loop-block l = words l.h ≡ blocks (padded l.input) l.block-index
