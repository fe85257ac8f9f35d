-- `open_rows` meets its contract: each row's selected string is put into the output and opened there. Assumes nothing.
use Rattle.std.proofs.Common.{List, ℕ, ap, ◌∙◌, length, drop, arith}
use Rattle.strings.specs.Selected.{Fits, selected_over}
use Rattle.strings.proofs.Selected.{selected_over_fits}
use Rattle.wire.specs.Message.{block_at}
use Rattle.buyer.specs.Open.{opened_selected, opened_strings}
use Rattle.buyer.proofs.Opened.{part_all, selected-opened}
use Rattle.buyer.proofs.opening.Opening.open_rows.Goals as goal

pub open_selected-requires : goal.open_selected-requires
open_selected-requires c =
    let f = c.requires.fits in
    record {
      rows_few = f.rows_few;
      bytes_few = f.bytes_few;
      session_long = f.session_long;
      kept_long = f.kept_long;
      strings_long = c.select.auto.out ∙ f.opened_long;
    }

pub returns : goal.returns
unfolding opened_strings
returns c =
    let s = c.args.self in
    let f = c.requires.fits in
    let strings = drop block_at s.received.now in
    let fits : Fits s.shape.rows s.shape.places s.shape.bytes (length s.selections.now) (length strings) (length c.args.opened.now)
    = record {
      rows_few = omega arith;
      places_some = f.places_some;
      places_few = f.places_few;
      bytes_some = f.bytes_some;
      bytes_few = omega arith;
      selections_long = f.selections_long;
      strings_long = f.strings_long;
      old_long = f.opened_long;
    } in
    c.open_selected.ensures
    ∙ ap (opened_selected s.shape.mode s.shape.rows s.shape.bytes s.session.now s.kept.now)
    (c.select.ensures
    ∙ ap (λ (x : List ℕ). selected_over s.shape.rows s.shape.places s.shape.bytes s.selections.now x c.args.opened.now) (part_all s.received.now)
    ∙ selected_over_fits s.shape.rows s.shape.places s.shape.bytes s.selections.now strings c.args.opened.now fits)
    ∙ selected-opened s.shape.mode s.shape.rows s.shape.places s.shape.bytes s.session.now s.selections.now s.kept.now strings f.small
