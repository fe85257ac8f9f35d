-- `hash`: a refusal leaves the buffer, and otherwise the digest is written over all of it. Assumes nothing.
use Rattle.std.proofs.Common.{refl, arith}
use Rattle.std.proofs.lemmas.Result.{err_from_is_err_and}
use Rattle.basics.proofs.Verdicts.{number_positive, gives_err, gives_ok}
use Rattle.symmetric.proofs.Calls.{hash_passed}
use Rattle.symmetric.proofs.hash.Goals as goal

pub returns-in_err-judge_hash : goal.returns-in_err-judge_hash
returns-in_err-judge_hash c =
    let p = err_from_is_err_and c.from_residual.result c.from_residual.ensures.1 in
    rw (p.1, p.2) (gives_err (number_positive _) c.in_err-judge_hash.ensures refl)

pub put_digest-requires : goal.put_digest-requires
put_digest-requires c = let ok = hash_passed _ _ _ c.in_ok-judge_hash.ensures refl in (omega arith, omega arith)

pub returns : goal.returns
returns c = gives_ok c.in_ok-judge_hash.ensures c.put_digest.ensures
