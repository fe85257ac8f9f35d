use Rattle.std.proofs.Common.{arith}
use Rattle.basics.proofs.Verdicts.{number_positive, err_exit, err_stop, ok_go, check_stop, check_go}
use Rattle.wire.specs.Received.{received_verdict}
use Rattle.wire.proofs.receiving.check_received.Goals as goal

pub returns-in_err-check_header : goal.returns-in_err-check_header
unfolding received_verdict
returns-in_err-check_header c = err_exit _ _ c.from_residual.ensures.1 (check_stop _ _ _ _ (number_positive _) c.in_err-check_header.ensures)

pub returns-in_err-compare : goal.returns-in_err-compare
unfolding received_verdict
returns-in_err-compare c =
    err_exit _ _ c.from_residual-in_err-compare.ensures.1
    (check_go _ _ _ _ (omega arith) c.in_ok-check_header.ensures
    (err_stop _ (number_positive _) (rw c.shape_bytes.ensures at c.in_err-compare.ensures)))

pub returns-in_err-check_header-2 : goal.returns-in_err-check_header-2
unfolding received_verdict
returns-in_err-check_header-2 c =
    err_exit _ _ c.from_residual-in_err-check_header-2.ensures.1
    (check_go _ _ _ _ (omega arith) c.in_ok-check_header.ensures
    (ok_go (rw c.shape_bytes.ensures at c.in_ok-compare.ensures)
    (check_stop _ _ _ _ (number_positive _) c.in_err-check_header-2.ensures)))

pub returns-in_err-compare-2 : goal.returns-in_err-compare-2
unfolding received_verdict
returns-in_err-compare-2 c =
    err_exit _ _ c.from_residual-in_err-compare-2.ensures.1
    (check_go _ _ _ _ (omega arith) c.in_ok-check_header.ensures
    (ok_go (rw c.shape_bytes.ensures at c.in_ok-compare.ensures)
    (check_go _ _ _ _ (omega arith) c.in_ok-check_header-2.ensures
    (err_stop _ (number_positive _) c.in_err-compare-2.ensures))))

pub returns : goal.returns
unfolding received_verdict
returns c =
    check_go _ _ _ _ (omega arith) c.in_ok-check_header.ensures
    (ok_go (rw c.shape_bytes.ensures at c.in_ok-compare.ensures)
    (check_go _ _ _ _ (omega arith) c.in_ok-check_header-2.ensures
    (ok_go c.in_ok-compare-2.ensures
    (rw c.block_length.ensures.0 at c.check_block.ensures))))
