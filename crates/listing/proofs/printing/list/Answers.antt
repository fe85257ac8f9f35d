-- `list` meets its contract: the three lines, or the refusal's line. Assumes nothing.
use mathlib.Core.Path.{refl, ap}
use mathlib.Core.List.{[], append_assoc}
use Rattle.basics.proofs.Verdicts.{err_refuses}
use Rattle.listing.specs.Text.{listed}
use Rattle.listing.proofs.Text.{holds, grown_listed}
use Rattle.listing.proofs.Lines.{listing_refused, listing_lines}
use Rattle.listing.proofs.printing.list.Goals as goal

pub returns-in-Ok : goal.returns-in-Ok
returns-in-Ok c =
    let lines = listing_lines c.args.message.now c.walk-walked.ensures c.in-Ok.ensures refl in
    holds _ (simp (c.put_block.ensures, c.put_session.ensures, c.put_shape.ensures, c.empty-listing.ensures, grown_listed, append_assoc) (ap listed lines))

pub returns-in-Err : goal.returns-in-Err
returns-in-Err c =
    let line = listing_refused c.args.message.now c.walk-walked.ensures c.in-Err.ensures (err_refuses c.in-Err.refusal) in
    holds _ (cc (c.put_refusal.ensures, c.empty-listing.ensures, grown_listed [] _, line))
