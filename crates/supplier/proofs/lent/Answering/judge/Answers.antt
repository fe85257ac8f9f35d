-- `judge` meets its contract: the checks in the definition's order, each tried where those before it pass. Assumes nothing.
use Rattle.basics.proofs.Verdicts.{number_positive, err_exit, err_stop, ok_go}
use Rattle.supplier.specs.Answer.{answer_verdict}
use Rattle.supplier.proofs.lent.Answering.judge.Goals as goal

pub returns-in_err-judge_shape : goal.returns-in_err-judge_shape
unfolding answer_verdict
returns-in_err-judge_shape c = err_exit _ _ c.from_residual.ensures.1 (err_stop _ (number_positive _) c.in_err-judge_shape.ensures)

pub returns-in_err-judge_lengths : goal.returns-in_err-judge_lengths
unfolding answer_verdict
returns-in_err-judge_lengths c =
    err_exit _ _ c.from_residual-in_err-judge_lengths.ensures.1
    (ok_go c.in_ok-judge_shape.ensures (err_stop _ (number_positive _) c.in_err-judge_lengths.ensures))

pub returns-in_err-judge_taken : goal.returns-in_err-judge_taken
unfolding answer_verdict
returns-in_err-judge_taken c =
    err_exit _ _ c.from_residual-in_err-judge_taken.ensures.1
    (ok_go c.in_ok-judge_shape.ensures (ok_go c.in_ok-judge_lengths.ensures (err_stop _ (number_positive _) c.in_err-judge_taken.ensures)))

pub returns : goal.returns
unfolding answer_verdict
returns c = ok_go c.in_ok-judge_shape.ensures (ok_go c.in_ok-judge_lengths.ensures (ok_go c.in_ok-judge_taken.ensures c.check_received.ensures))
