-- `judge` meets its contract: each verdict goes on or stops as the definition does. Assumes nothing.
use Rattle.std.proofs.Common.{refl}
use Rattle.basics.proofs.Verdicts.{number_positive, err_exit, err_stop, ok_go}
use Rattle.buyer.specs.Prepare.{prepare_verdict}
use Rattle.buyer.proofs.Judged.{lengths_passed}
use Rattle.buyer.proofs.preparing.Preparing.judge.Goals as goal

pub returns-in_err-judge_shape : goal.returns-in_err-judge_shape
unfolding prepare_verdict
returns-in_err-judge_shape c = err_exit _ _ c.from_residual.ensures.1 (err_stop _ (number_positive _) c.in_err-judge_shape.ensures)

pub returns-in_err-judge_lengths : goal.returns-in_err-judge_lengths
unfolding prepare_verdict
returns-in_err-judge_lengths c =
    err_exit _ _ c.from_residual-in_err-judge_lengths.ensures.1
    (ok_go c.in_ok-judge_shape.ensures (err_stop _ (number_positive _) c.in_err-judge_lengths.ensures))

pub judge_selections-requires : goal.judge_selections-requires
judge_selections-requires c = (lengths_passed c.in_ok-judge_lengths.ensures refl).selections_long

pub returns-in_err-judge_selections : goal.returns-in_err-judge_selections
unfolding prepare_verdict
returns-in_err-judge_selections c =
    err_exit _ _ c.from_residual-in_err-judge_selections.ensures.1
    (ok_go c.in_ok-judge_shape.ensures (ok_go c.in_ok-judge_lengths.ensures (err_stop _ (number_positive _) c.in_err-judge_selections.ensures)))

pub returns : goal.returns
unfolding prepare_verdict
returns c = ok_go c.in_ok-judge_shape.ensures (ok_go c.in_ok-judge_lengths.ensures (ok_go c.in_ok-judge_selections.ensures c.judge_sets.ensures))
