-- `compressed` is the rounds over the block's schedule, and the sum. Assumes nothing.
use Rattle.std.proofs.Common.{ap, ◌∙◌}
use Rattle.symmetric.specs.Words.{sums}
use Rattle.symmetric.specs.Sha.{compress}
use Rattle.symmetric.specs.Values.{words}
use Rattle.symmetric.proofs.rounds.State.compressed.Goals as goal

pub returns : goal.returns
unfolding compress
returns c = c.added.ensures ∙ ap (sums 8 (words c.args.self)) c.stir.ensures
