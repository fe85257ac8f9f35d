use Rattle.std.proofs.Common.{refl}
use Rattle.std.proofs.lemmas.Result.{err_from_is_err_and}
use Rattle.basics.proofs.Verdicts.{err_refuses}
use Rattle.exchange.proofs.Exchanged.{exchanged_prepare, exchanged_answer, exchanged_open}
use Rattle.exchange.proofs.exchanging.exchange.Goals as goal

pub returns-in_err-prepare_from_seeds : goal.returns-in_err-prepare_from_seeds
returns-in_err-prepare_from_seeds c =
    let p = err_from_is_err_and c.from_residual.result c.from_residual.ensures.1 in
    rw (p.1, p.2) (exchanged_prepare _ _ _ _ _ _ _ _ _ _ _ _ _ _ _ c.in_err-prepare_from_seeds.ensures (err_refuses c.in_err-prepare_from_seeds.field-0.0))

pub returns-in-Err : goal.returns-in-Err
returns-in-Err c =
    exchanged_answer _ _ _ _ _ _ _ _ _ _ _ _ _ _ _ c.in_ok-prepare_from_seeds.ensures c.take.ensures c.in-Err.ensures refl (err_refuses c.in-Err.refusal)

pub returns : goal.returns
returns c =
    exchanged_open _ _ _ _ _ _ _ _ _ _ _ _ _ _ _ c.in_ok-prepare_from_seeds.ensures c.take.ensures c.in_default.ensures c.«open».ensures refl refl
