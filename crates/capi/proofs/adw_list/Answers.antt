use Rattle.std.proofs.Common.{◌∙◌, length, ap, arith}
use borrow.Author.Tests.{eq-eqb}
use Rattle.basics.proofs.Choice.{pick_passed}
use Rattle.listing.specs.declared.Listing.{Listing}
use Rattle.capi.proofs.adw_list.Goals as goal

pub returns : goal.returns
returns c =
    let is = c.list-l.ensures.is in
    let whole = eq-eqb (length c.args.text.now) 128 (omega arith) in
    (pick_passed _ whole (ap (λ (x : Listing). x.len) is), pick_passed _ whole (c.copy_from_slice.ensures.after ∙ ap (λ (x : Listing). x.text) is))
