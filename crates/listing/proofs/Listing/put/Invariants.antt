-- `put`'s loop has put as much of the word behind the text as it has passed.
use mathlib.Core.Path.{◌≡◌}
use lib.ListN.{take}
use Rattle.listing.specs.Text.{grown}
use Rattle.listing.proofs.Listing.put.Given as goal

abbrev pub invariant-loop-b : goal.invariant-loop-b
invariant-loop-b l = l.self ≡ grown l.initial.self (take l.b-index l.word)
