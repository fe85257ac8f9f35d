-- `turn` goes on by eight rounds: each round adds one to those behind it. Assumes nothing.
use Rattle.std.proofs.Common.{◌≡◌, ◌+◌, add-zero, arith}
use Rattle.symmetric.proofs.Sha.{rounds_more}
use Rattle.symmetric.proofs.rounds.State.turn.Goals as goal

pub loop-i-init : goal.loop-i-init
loop-i-init c = λ bs h n z l high e. rw add-zero e

pub loop-i-preserved : goal.loop-i-preserved
loop-i-preserved c = λ bs h n z far high e.
    let l = c.loop-i in
    rounds_more bs h n z (c.args.t + l.i) (c.args.t + (l.i + 1)) (omega arith) high (omega arith) (l.invariant bs h n z far high e)
    c.step-v.ensures

pub returns : goal.returns
returns c = λ bs h n z far high e.
    let done : c.loop-i.i ≡ 8 = omega arith in
    rw done at c.loop-i.invariant bs h n z far high e
