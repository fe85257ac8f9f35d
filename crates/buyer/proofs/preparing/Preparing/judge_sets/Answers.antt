-- `judge_sets` meets its contract: each return is a case of the definition. Assumes nothing.
use Rattle.basics.proofs.Verdicts.{number_positive, err_exit, err_stop, ok_go}
use Rattle.buyer.specs.Prepare.{sets_padding}
use Rattle.buyer.proofs.preparing.Preparing.judge_sets.Goals as goal

pub returns-then-self : goal.returns-then-self
unfolding sets_padding
returns-then-self c = rw c.if-self.true

pub returns-in_err-check_clear : goal.returns-in_err-check_clear
unfolding sets_padding
returns-in_err-check_clear c =
    rw c.if-self.false
    (err_exit _ _ c.from_residual.ensures.1 (err_stop _ (number_positive _) (rw c.columns_of-k.ensures.is at c.in_err-check_clear.ensures)))

pub returns : goal.returns
unfolding sets_padding
returns c =
    let k = c.columns_of-k.ensures.is in
    rw c.if-self.false (ok_go (rw k at c.in_ok-check_clear.ensures) (rw k at c.check_clear-2.ensures))
