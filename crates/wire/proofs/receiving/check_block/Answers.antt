use Rattle.std.proofs.Common.{arith}
use Rattle.basics.proofs.Verdicts.{number_positive, err_exit, check_stop, check_go}
use Rattle.wire.specs.Received.{block_verdict}
use Rattle.wire.proofs.receiving.check_block.Goals as goal

pub returns-in_err-check_header : goal.returns-in_err-check_header
unfolding block_verdict
returns-in_err-check_header c = err_exit _ _ c.from_residual.ensures.1 (check_stop _ _ _ _ (number_positive _) c.in_err-check_header.ensures)

pub returns-in_err-check : goal.returns-in_err-check
unfolding block_verdict
returns-in_err-check c =
    err_exit _ _ c.from_residual-in_err-check.ensures.1
    (check_go _ _ _ _ (omega arith) c.in_ok-check_header.ensures
    (check_stop _ _ _ _ (number_positive _) c.in_err-check.ensures))

pub returns : goal.returns
unfolding block_verdict
returns c =
    check_go _ _ _ _ (omega arith) c.in_ok-check_header.ensures
    (check_go _ _ _ _ (omega arith) c.in_ok-check.ensures c.check_padding.ensures)
