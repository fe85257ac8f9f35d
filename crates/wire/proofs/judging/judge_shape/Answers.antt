use Rattle.std.proofs.Common.{arith}
use Rattle.basics.proofs.Verdicts.{number_positive, err_exit, stop_by, go_by}
use Rattle.wire.specs.Shapes.{shape_verdict}
use Rattle.wire.proofs.judging.judge_shape.Goals as goal

pub returns-in_err-check : goal.returns-in_err-check
unfolding shape_verdict
returns-in_err-check c = err_exit _ _ c.from_residual.ensures.1 (stop_by _ _ _ _ c.is_within.ensures (number_positive _) c.in_err-check.ensures)

pub returns-in_err-check-2 : goal.returns-in_err-check-2
unfolding shape_verdict
returns-in_err-check-2 c =
    err_exit _ _ c.from_residual-in_err-check-2.ensures.1
    (go_by _ _ _ _ c.is_within.ensures (omega arith) c.in_ok-check.ensures
    (stop_by _ _ _ _ c.is_within-2.ensures (number_positive _) c.in_err-check-2.ensures))

pub returns-in_err-check-3 : goal.returns-in_err-check-3
unfolding shape_verdict
returns-in_err-check-3 c =
    err_exit _ _ c.from_residual-in_err-check-3.ensures.1
    (go_by _ _ _ _ c.is_within.ensures (omega arith) c.in_ok-check.ensures
    (go_by _ _ _ _ c.is_within-2.ensures (omega arith) c.in_ok-check-2.ensures
    (stop_by _ _ _ _ (rw c.most_places.ensures at c.is_within-3.ensures) (number_positive _) c.in_err-check-3.ensures)))

pub returns-in_err-check-4 : goal.returns-in_err-check-4
unfolding shape_verdict
returns-in_err-check-4 c =
    err_exit _ _ c.from_residual-in_err-check-4.ensures.1
    (go_by _ _ _ _ c.is_within.ensures (omega arith) c.in_ok-check.ensures
    (go_by _ _ _ _ c.is_within-2.ensures (omega arith) c.in_ok-check-2.ensures
    (go_by _ _ _ _ (rw c.most_places.ensures at c.is_within-3.ensures) (omega arith) c.in_ok-check-3.ensures
    (stop_by _ _ _ _ c.is_within-4.ensures (number_positive _) c.in_err-check-4.ensures))))

pub returns : goal.returns
unfolding shape_verdict
returns c =
    go_by _ _ _ _ c.is_within.ensures (omega arith) c.in_ok-check.ensures
    (go_by _ _ _ _ c.is_within-2.ensures (omega arith) c.in_ok-check-2.ensures
    (go_by _ _ _ _ (rw c.most_places.ensures at c.is_within-3.ensures) (omega arith) c.in_ok-check-3.ensures
    (go_by _ _ _ _ c.is_within-4.ensures (omega arith) c.in_ok-check-4.ensures
    (rw c.volume.ensures.0 at c.check-5.ensures))))
