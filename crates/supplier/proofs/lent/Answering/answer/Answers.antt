-- `answer` meets its contract: a refusal leaves the message, and where nothing is refused it is written. Assumes nothing.
use Rattle.std.proofs.Common.{refl}
use Rattle.std.proofs.lemmas.Result.{err_from_is_err_and}
use Rattle.basics.proofs.Verdicts.{number_positive, gives_err}
use Rattle.supplier.proofs.lent.Answering.answer.Goals as goal

pub returns-in_err-judge : goal.returns-in_err-judge
returns-in_err-judge c =
    let p = err_from_is_err_and c.from_residual.result c.from_residual.ensures.1 in
    rw (p.1, p.2) (gives_err (number_positive _) c.in_err-judge.ensures refl)
