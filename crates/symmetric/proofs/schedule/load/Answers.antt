-- `load` meets its contract. Assumes nothing.
use Rattle.std.proofs.Common.{◌+◌, refl, arith}
use Rattle.symmetric.proofs.Sha.{scheduled_none, scheduled_low}
use Rattle.symmetric.proofs.schedule.load.Goals as goal

pub loop-t-init : goal.loop-t-init
loop-t-init c = scheduled_none _ _ refl

pub loop-t-preserved : goal.loop-t-preserved
loop-t-preserved c =
    let l = c.loop-t in
    scheduled_low _ l.t (l.t + 1) l.invariant (omega arith) (omega arith) (omega arith) c.word_at.ensures
