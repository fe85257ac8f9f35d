-- Two results that the contract of `list` allows are equal. Assumes nothing.
use mathlib.Core.Path.{◌≡◌}
use mathlib.Core.List.{List}
use Prim.Native.Nat.{ℕ}
use Rattle.wire.proofs.Unique.{same}
use Rattle.listing.specs.declared.Listing.{Listing}
use Rattle.listing.specs.Text.{Holds}
use Rattle.listing.specs.Lines.{listing_of}

pub list_unique : (message : List ℕ) {r₁ r₂ : Listing} → Holds (listing_of message) r₁ → Holds (listing_of message) r₂ → r₁ ≡ r₂
list_unique message p q = same p.is q.is
