-- `judge_lengths` meets its contract: the checks are the definition's, in its order. Assumes nothing.
use Rattle.std.proofs.Common.{arith}
use Rattle.basics.proofs.Verdicts.{number_positive, err_exit, check_stop, check_go}
use Rattle.buyer.specs.Open.{open_lengths}
use Rattle.buyer.proofs.opening.Opening.judge_lengths.Goals as goal

pub returns-in_err-check : goal.returns-in_err-check
unfolding open_lengths
returns-in_err-check c = err_exit _ _ c.from_residual.ensures.1 (check_stop _ _ _ _ (number_positive _) c.in_err-check.ensures)

pub returns-in_err-check-2 : goal.returns-in_err-check-2
unfolding open_lengths
returns-in_err-check-2 c =
    err_exit _ _ c.from_residual-in_err-check-2.ensures.1
    (check_go _ _ _ _ (omega arith) c.in_ok-check.ensures
    (check_stop _ _ _ _ (number_positive _) (rw c.from-m.ensures at c.in_err-check-2.ensures)))

pub returns-in_err-check-3 : goal.returns-in_err-check-3
unfolding open_lengths
returns-in_err-check-3 c =
    let m = c.from-m.ensures in
    err_exit _ _ c.from_residual-in_err-check-3.ensures.1
    (check_go _ _ _ _ (omega arith) c.in_ok-check.ensures
    (check_go _ _ _ _ (omega arith) (rw m at c.in_ok-check-2.ensures)
    (check_stop _ _ _ _ (number_positive _) (rw (m, c.columns_of-width.ensures.is) at c.in_err-check-3.ensures))))

pub returns : goal.returns
unfolding open_lengths
returns c =
    let m = c.from-m.ensures in
    check_go _ _ _ _ (omega arith) c.in_ok-check.ensures
    (check_go _ _ _ _ (omega arith) (rw m at c.in_ok-check-2.ensures)
    (check_go _ _ _ _ (omega arith) (rw (m, c.columns_of-width.ensures.is) at c.in_ok-check-3.ensures)
    (rw (m, c.from-l.ensures) at c.check-4.ensures)))
