-- `judge` meets its contract: the walk's refusal, or the padding's. Assumes nothing.
use mathlib.Core.Path.{sym, ap}
use Rattle.basics.specs.Verdicts.{verdict}
use Rattle.basics.proofs.Verdicts.{number_positive, err_exit, err_stop, ok_go}
use Rattle.listing.proofs.printing.judge.Goals as goal

pub returns-in_err-walked : goal.returns-in_err-walked
returns-in_err-walked c = err_exit _ _ c.from_residual.ensures.1 (err_stop _ (number_positive _) (ap verdict (sym c.in_err-walked.was)))

pub returns : goal.returns
returns c = ok_go (ap verdict (sym c.in_ok-walked.was)) c.check_padding.ensures
