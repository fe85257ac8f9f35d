-- `step` is one round: two new words from T1 and T2, the other six moved on. Assumes nothing.
use Rattle.symmetric.specs.Sha.{round}
use Rattle.symmetric.proofs.rounds.State.step.Goals as goal

pub returns : goal.returns
unfolding round
returns c = rw (c.temp1-t1.ensures, c.temp2.ensures, c.requires.0)
