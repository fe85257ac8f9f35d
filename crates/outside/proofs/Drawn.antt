-- Laws of the generator: its state goes on by one step a byte. Assumes nothing.
use mathlib.Core.Path.{◌≡◌, refl, sym, ap, ◌∙◌}
use Prim.Native.Nat.{ℕ, ◌+◌}
use native.Mathlib.Numerals.{add-one}
use Rattle.outside.specs.Drawn.{stepped, state_after}

pub state_none : (x : ℕ) → x ≡ state_after x 0
unfolding state_after
state_none x = refl

pub state_more : (x p : ℕ) {s t : ℕ} → s ≡ state_after x p → t ≡ stepped s → t ≡ state_after x (p + 1)
unfolding state_after
state_more x p e h = h ∙ ap stepped e ∙ sym (ap (state_after x) (add-one p))
