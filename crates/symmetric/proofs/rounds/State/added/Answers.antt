-- `added` is the sum word by word, by computation. Assumes nothing.
use Rattle.std.proofs.Common.{refl}
use Rattle.basics.specs.Bytes.{from, build}
use Rattle.symmetric.specs.Words.{sums}
use Rattle.symmetric.proofs.rounds.State.added.Goals as goal

pub returns : goal.returns
unfolding sums build from
returns c = refl
