-- `put_twelve`'s loop has put i bytes of the session behind the text.
use mathlib.Core.Path.{◌≡◌}
use Rattle.listing.specs.Text.{hexed, grown}
use Rattle.listing.specs.Lines.{session_byte}
use Rattle.listing.proofs.Listing.put_twelve.Given as goal

abbrev pub invariant-loop-i : goal.invariant-loop-i
invariant-loop-i l = l.self ≡ grown l.initial.self (hexed l.i (session_byte l.message))
