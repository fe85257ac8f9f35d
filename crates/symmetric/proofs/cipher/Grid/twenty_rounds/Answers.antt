-- `twenty_rounds` meets its contract. Assumes nothing.
use Rattle.std.proofs.Common.{◌≡◌, refl, arith}
use Rattle.symmetric.specs.ChaCha.{double_rounds}
use Rattle.symmetric.proofs.ChaCha.{double_rounds_more}
use Rattle.symmetric.proofs.cipher.Grid.twenty_rounds.Goals as goal

pub loop-init : goal.loop-init
unfolding double_rounds
loop-init c = refl

pub loop-preserved : goal.loop-preserved
loop-preserved c = double_rounds_more _ _ c.loop.invariant c.double_round-v.ensures

pub returns : goal.returns
returns c =
    let e : c.loop.counter ≡ 10 = omega arith in
    rw e at c.loop.invariant
