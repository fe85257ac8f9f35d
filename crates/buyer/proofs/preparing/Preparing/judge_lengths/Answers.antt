-- `judge_lengths` meets its contract: the checks are the definition's, in its order. Assumes nothing.
use Rattle.std.proofs.Common.{arith}
use Rattle.basics.proofs.Verdicts.{number_positive, err_exit, check_stop, check_go}
use Rattle.buyer.specs.Prepare.{prepare_lengths}
use Rattle.buyer.proofs.preparing.Preparing.judge_lengths.Goals as goal

pub returns-in_err-check : goal.returns-in_err-check
unfolding prepare_lengths
returns-in_err-check c = err_exit _ _ c.from_residual.ensures.1 (check_stop _ _ _ _ (number_positive _) c.in_err-check.ensures)

pub returns-in_err-check-2 : goal.returns-in_err-check-2
unfolding prepare_lengths
returns-in_err-check-2 c =
    let k = c.columns_of-k.ensures.is in
    let e = c.entry_bytes.ensures.0 in
    err_exit _ _ c.from_residual-in_err-check-2.ensures.1
    (check_go _ _ _ _ (omega arith) c.in_ok-check.ensures
    (check_stop _ _ _ _ (number_positive _) (rw (k, e) at c.in_err-check-2.ensures)))

pub returns-in_err-check-3 : goal.returns-in_err-check-3
unfolding prepare_lengths
returns-in_err-check-3 c =
    let k = c.columns_of-k.ensures.is in
    let e = c.entry_bytes.ensures.0 in
    err_exit _ _ c.from_residual-in_err-check-3.ensures.1
    (check_go _ _ _ _ (omega arith) c.in_ok-check.ensures
    (check_go _ _ _ _ (omega arith) (rw (k, e) at c.in_ok-check-2.ensures)
    (check_stop _ _ _ _ (number_positive _) (rw (k, e) at c.in_err-check-3.ensures))))

pub returns-in_err-check-4 : goal.returns-in_err-check-4
unfolding prepare_lengths
returns-in_err-check-4 c =
    let k = c.columns_of-k.ensures.is in
    let e = c.entry_bytes.ensures.0 in
    err_exit _ _ c.from_residual-in_err-check-4.ensures.1
    (check_go _ _ _ _ (omega arith) c.in_ok-check.ensures
    (check_go _ _ _ _ (omega arith) (rw (k, e) at c.in_ok-check-2.ensures)
    (check_go _ _ _ _ (omega arith) (rw (k, e) at c.in_ok-check-3.ensures)
    (check_stop _ _ _ _ (number_positive _) (rw c.from-m.ensures at c.in_err-check-4.ensures)))))

pub returns-in_err-check-5 : goal.returns-in_err-check-5
unfolding prepare_lengths
returns-in_err-check-5 c =
    let k = c.columns_of-k.ensures.is in
    let e = c.entry_bytes.ensures.0 in
    err_exit _ _ c.from_residual-in_err-check-5.ensures.1
    (check_go _ _ _ _ (omega arith) c.in_ok-check.ensures
    (check_go _ _ _ _ (omega arith) (rw (k, e) at c.in_ok-check-2.ensures)
    (check_go _ _ _ _ (omega arith) (rw (k, e) at c.in_ok-check-3.ensures)
    (check_go _ _ _ _ (omega arith) (rw c.from-m.ensures at c.in_ok-check-4.ensures)
    (check_stop _ _ _ _ (number_positive _) (rw (k, c.column_bytes.ensures) at c.in_err-check-5.ensures))))))

pub returns : goal.returns
unfolding prepare_lengths
returns c =
    let k = c.columns_of-k.ensures.is in
    let e = c.entry_bytes.ensures.0 in
    let m = c.from-m.ensures in
    check_go _ _ _ _ (omega arith) c.in_ok-check.ensures
    (check_go _ _ _ _ (omega arith) (rw (k, e) at c.in_ok-check-2.ensures)
    (check_go _ _ _ _ (omega arith) (rw (k, e) at c.in_ok-check-3.ensures)
    (check_go _ _ _ _ (omega arith) (rw m at c.in_ok-check-4.ensures)
    (check_go _ _ _ _ (omega arith) (rw (k, c.column_bytes.ensures) at c.in_ok-check-5.ensures)
    (rw (m, k) at c.check-6.ensures)))))
