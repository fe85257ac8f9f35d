-- `stir` meets its contract: the schedule is as far ahead as the turn needs it, whether this turn extends it or not. Assumes nothing.
use Rattle.std.proofs.Common.{◌≡◌, ◌+◌, min, refl, arith}
use Rattle.symmetric.specs.Sha.{round_constants, rounds}
use Rattle.symmetric.specs.Values.{Scheduled}
use Rattle.symmetric.proofs.Sha.{scheduled_as}
use Rattle.symmetric.proofs.rounds.State.stir.Goals as goal
use Rattle.symmetric.proofs.rounds.State.stir.Goals.{then-t-lt48, else-t-lt48}

pub loop-t-init : goal.loop-t-init
unfolding rounds
loop-t-init c = (omega arith, refl, c.load-w.ensures, refl)

pub turn-v-requires : goal.turn-v-requires
unfolding round_constants
turn-v-requires c = (refl, omega arith)

pub loop-t-preserved : goal.loop-t-preserved
loop-t-preserved c =
    let l = c.loop-t in
    let bs = c.args.block.now in
    let n = min (l.t + 8 + 16) 64 in
    let ahead : Scheduled bs n c.if-t-lt48.w
    = elim c.if-t-lt48.branch [
      | then-t-lt48 x ↦ rw x.w-is (scheduled_as n (omega arith) (x.extend.ensures bs (scheduled_as (l.t + 16) (omega arith) l.invariant.2)))
      | else-t-lt48 x ↦ rw x.w-is (scheduled_as n (omega arith) l.invariant.2)
    ] in
    (omega arith, omega arith, ahead, c.turn-v.ensures bs _ n ahead (omega arith) (omega arith) l.invariant.3)

pub returns : goal.returns
returns c =
    let l = c.loop-t in
    let e : l.t ≡ 64 = omega arith in
    rw e at l.invariant.3
