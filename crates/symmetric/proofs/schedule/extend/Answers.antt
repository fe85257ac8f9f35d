-- `extend` meets its contract. Assumes nothing.
use Rattle.std.proofs.Common.{◌+◌, arith}
use Rattle.symmetric.proofs.Sha.{scheduled_as, scheduled_high}
use Rattle.symmetric.proofs.schedule.extend.Goals as goal

pub loop-i-preserved : goal.loop-i-preserved
loop-i-preserved c = λ bs z.
    let l = c.loop-i in
    scheduled_high bs (c.args.t + l.i) (c.args.t + (l.i + 1)) (l.invariant bs z) (omega arith) (omega arith) (omega arith) c.expanded_word.ensures

pub returns : goal.returns
returns c = λ bs z. scheduled_as (c.args.t + 8) (omega arith) (c.loop-i.invariant bs z)
