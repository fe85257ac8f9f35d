-- `judge_block` is the chain of its three checks. Assumes nothing.
use Rattle.std.proofs.Common.{refl, arith}
use Rattle.basics.proofs.Verdicts.{number_positive, err_exit, stop_by, go_by}
use Rattle.symmetric.specs.Calls.{block_verdict}
use Rattle.symmetric.proofs.judge_block.Goals as goal

pub returns-in_err-check : goal.returns-in_err-check
unfolding block_verdict
returns-in_err-check c = err_exit _ _ c.from_residual.ensures.1 (stop_by _ _ _ _ refl (number_positive _) c.in_err-check.ensures)

pub returns-in_err-check-2 : goal.returns-in_err-check-2
unfolding block_verdict
returns-in_err-check-2 c =
    err_exit _ _ c.from_residual-in_err-check-2.ensures.1
    (go_by _ _ _ _ refl (omega arith) c.in_ok-check.ensures (stop_by _ _ _ _ refl (number_positive _) c.in_err-check-2.ensures))

pub returns : goal.returns
unfolding block_verdict
returns c =
    go_by _ _ _ _ refl (omega arith) c.in_ok-check.ensures (go_by _ _ _ _ refl (omega arith) c.in_ok-check-2.ensures c.check-3.ensures)
