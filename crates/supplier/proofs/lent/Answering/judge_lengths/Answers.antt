-- `judge_lengths` meets its contract: the definition's tests, in its order. Assumes nothing.
use Rattle.std.proofs.Common.{arith}
use Rattle.basics.proofs.Verdicts.{number_positive, err_exit, check_stop, check_go}
use Rattle.supplier.specs.Answer.{answer_lengths}
use Rattle.supplier.proofs.lent.Answering.judge_lengths.Goals as goal

pub returns-in_err-check : goal.returns-in_err-check
unfolding answer_lengths
returns-in_err-check c = err_exit _ _ c.from_residual.ensures.1 (check_stop _ _ _ _ (number_positive _) c.in_err-check.ensures)

pub returns-in_err-check-2 : goal.returns-in_err-check-2
unfolding answer_lengths
returns-in_err-check-2 c =
    err_exit _ _ c.from_residual-in_err-check-2.ensures.1
    (check_go _ _ _ _ (omega arith) c.in_ok-check.ensures
    (check_stop _ _ _ _ (number_positive _) (rw c.columns_of-k.ensures.is at c.in_err-check-2.ensures)))

pub returns-in_err-check-3 : goal.returns-in_err-check-3
unfolding answer_lengths
returns-in_err-check-3 c =
    err_exit _ _ c.from_residual-in_err-check-3.ensures.1
    (check_go _ _ _ _ (omega arith) c.in_ok-check.ensures
    (check_go _ _ _ _ (omega arith) (rw c.columns_of-k.ensures.is at c.in_ok-check-2.ensures)
    (check_stop _ _ _ _ (number_positive _) (rw (c.columns_of-k.ensures.is, c.entry_bytes.ensures.0) at c.in_err-check-3.ensures))))

pub returns-in_err-check-4 : goal.returns-in_err-check-4
unfolding answer_lengths
returns-in_err-check-4 c =
    err_exit _ _ c.from_residual-in_err-check-4.ensures.1
    (check_go _ _ _ _ (omega arith) c.in_ok-check.ensures
    (check_go _ _ _ _ (omega arith) (rw c.columns_of-k.ensures.is at c.in_ok-check-2.ensures)
    (check_go _ _ _ _ (omega arith) (rw (c.columns_of-k.ensures.is, c.entry_bytes.ensures.0) at c.in_ok-check-3.ensures)
    (check_stop _ _ _ _ (number_positive _) (rw c.volume-block.ensures.0 at c.in_err-check-4.ensures)))))

pub returns : goal.returns
unfolding answer_lengths
returns c =
    check_go _ _ _ _ (omega arith) c.in_ok-check.ensures
    (check_go _ _ _ _ (omega arith) (rw c.columns_of-k.ensures.is at c.in_ok-check-2.ensures)
    (check_go _ _ _ _ (omega arith) (rw (c.columns_of-k.ensures.is, c.entry_bytes.ensures.0) at c.in_ok-check-3.ensures)
    (check_go _ _ _ _ (omega arith) (rw c.volume-block.ensures.0 at c.in_ok-check-4.ensures) (rw c.volume-block.ensures.0 at c.check-5.ensures))))
