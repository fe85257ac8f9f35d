-- `put_decimal`'s loop has put the digits at the units that it has passed behind the text.
use mathlib.Core.Path.{◌≡◌}
use lib.ListN.{take}
use Rattle.listing.specs.Text.{grown}
use Rattle.listing.proofs.Text.{leads}
use Rattle.listing.proofs.Listing.put_decimal.Given as goal

abbrev pub invariant-loop-unit : goal.invariant-loop-unit
invariant-loop-unit l = l.self ≡ grown l.initial.self (leads (take l.unit-index l.unit-items) l.n)
