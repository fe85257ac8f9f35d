-- `first` gives the eight words of section 5.3.3, by computation. Assumes nothing.
use Rattle.std.proofs.Common.{refl}
use Rattle.symmetric.specs.Sha.{initial}
use Rattle.symmetric.proofs.rounds.State.first.Goals as goal

pub returns : goal.returns
unfolding initial
returns c = refl
