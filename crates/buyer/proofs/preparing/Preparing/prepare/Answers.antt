-- `prepare` meets its contract: on a refusal nothing is written, and otherwise the header and the block make the message. Assumes nothing.
use Rattle.std.proofs.Common.{refl, arith}
use Rattle.std.proofs.lemmas.Result.{err_from_is_err_and}
use Rattle.basics.proofs.Verdicts.{number_positive, gives_err}
use Rattle.buyer.proofs.Judged.{prepare_passed, first_fits, second_fits}
use Rattle.buyer.proofs.Prepared.{header_long, part_long}
use Rattle.buyer.proofs.preparing.Preparing.prepare.Goals as goal

pub returns-in_err-judge : goal.returns-in_err-judge
returns-in_err-judge c =
    let p = err_from_is_err_and c.from_residual.result c.from_residual.ensures.1 in
    rw (p.1, p.2) (record { sent = gives_err (number_positive _) c.in_err-judge.ensures refl; rows = gives_err (number_positive _) c.in_err-judge.ensures refl })

pub put_header-requires : goal.put_header-requires
put_header-requires c =
    let z = prepare_passed c.in_ok-judge.ensures refl in
    record {
      session_long = z.lengths.session_long;
      long = omega (arith, z.lengths.message_long);
      few = omega (arith, z.lengths.message_long, z.shape.block_few);
    }

pub slice_bounds-fill-count : goal.slice_bounds-fill-count
slice_bounds-fill-count c = omega (arith, header_long _ (prepare_passed c.in_ok-judge.ensures refl) c.put_header.ensures)

pub slice_bounds-fill-start : goal.slice_bounds-fill-start
slice_bounds-fill-start c = omega (arith, header_long _ (prepare_passed c.in_ok-judge.ensures refl) c.put_header.ensures)

pub fill-requires : goal.fill-requires
fill-requires c =
    let z = prepare_passed c.in_ok-judge.ensures refl in
    let block = part_long c.put_header.new.message _ (header_long _ z c.put_header.ensures) in
    record {
      first_fits = first_fits z block;
      second_fits = second_fits z block;
      selected = z.lengths.selections_long;
      kept_long = z.lengths.kept_long;
    }
