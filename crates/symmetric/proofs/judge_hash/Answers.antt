-- `judge_hash` is the chain of its two checks. Assumes nothing.
use Rattle.std.proofs.Common.{refl, arith}
use Rattle.basics.proofs.Verdicts.{number_positive, err_exit, stop_by, go_by}
use Rattle.symmetric.specs.Calls.{hash_verdict}
use Rattle.symmetric.proofs.judge_hash.Goals as goal

pub returns-in_err-check : goal.returns-in_err-check
unfolding hash_verdict
returns-in_err-check c = err_exit _ _ c.from_residual.ensures.1 (stop_by _ _ _ _ refl (number_positive _) c.in_err-check.ensures)

pub returns : goal.returns
unfolding hash_verdict
returns c = go_by _ _ _ _ refl (omega arith) c.in_ok-check.ensures c.check-2.ensures
