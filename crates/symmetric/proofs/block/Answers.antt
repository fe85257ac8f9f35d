-- `block`: a refusal leaves the buffer, and otherwise the block is written over all of it. Assumes nothing.
use Rattle.std.proofs.Common.{refl}
use Rattle.std.proofs.lemmas.Result.{err_from_is_err_and}
use Rattle.basics.proofs.Verdicts.{number_positive, gives_err, gives_ok}
use Rattle.symmetric.proofs.Calls.{block_passed}
use Rattle.symmetric.proofs.block.Goals as goal

pub returns-in_err-judge_block : goal.returns-in_err-judge_block
returns-in_err-judge_block c =
    let p = err_from_is_err_and c.from_residual.result c.from_residual.ensures.1 in
    rw (p.1, p.2) (gives_err (number_positive _) c.in_err-judge_block.ensures refl)

pub put_block-requires : goal.put_block-requires
put_block-requires c = let ok = block_passed _ _ _ _ c.in_ok-judge_block.ensures refl in (ok.key_long, ok.nonce_long, ok.out_long)

pub returns : goal.returns
returns c = gives_ok c.in_ok-judge_block.ensures c.put_block.ensures
