-- `open` meets its contract: on a refusal nothing is written, and otherwise the message's block is opened. Assumes nothing.
use Rattle.std.proofs.Common.{ℕ, ◌*◌, refl, ap, ◌∙◌, arith, length-drop}
use Rattle.std.proofs.lemmas.Result.{err_from_is_err_and}
use Rattle.basics.proofs.Verdicts.{number_positive, gives_err, gives_ok}
use Rattle.columns.proofs.Sizes.{row_of}
use Rattle.buyer.proofs.Judged.{open_passed, strings_long}
use Rattle.buyer.proofs.opening.Opening.open.Goals as goal

pub returns-in_err-judge : goal.returns-in_err-judge
returns-in_err-judge c =
    let p = err_from_is_err_and c.from_residual.result c.from_residual.ensures.1 in
    rw (p.1, p.2) (gives_err (number_positive _) c.in_err-judge.ensures refl)

pub open_rows-requires : goal.open_rows-requires
open_rows-requires c =
    let s = c.args.self in
    let z = open_passed c.in_ok-judge.ensures refl in
    let arrived = strings_long s.shape.mode s.shape.rows s.shape.places s.shape.bytes s.session.now s.received.now z.arrived in
    record {
      arrived = omega (arith, arrived);
      fits = record {
        rows_few = z.shape.rows_few;
        places_some = omega (arith, z.shape.places_some);
        places_few = z.shape.places_few;
        bytes_some = z.shape.bytes_some;
        bytes_few = z.shape.bytes_few;
        session_long = z.lengths.session_long;
        selections_long = z.lengths.selections_long;
        kept_long = z.lengths.kept_long ∙ ap (λ (w : ℕ). s.shape.rows * w) (row_of s.shape.mode);
        strings_long = simp length-drop (omega (arith, arrived));
        opened_long = z.lengths.opened_long;
        small = z.small;
      };
    }

pub returns : goal.returns
returns c = gives_ok c.in_ok-judge.ensures c.open_rows.ensures
