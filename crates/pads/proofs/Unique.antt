-- Document 01, section 11: two results that the contract of `mask` allows are equal. Assumes nothing.
use mathlib.Core.Path.{◌≡◌, sym, ◌∙◌}
use mathlib.Core.List.{List}
use Prim.Native.Nat.{ℕ}
use Rattle.pads.specs.Pads.{pad_masked}

pub mask_unique : (session : List ℕ) (j : ℕ) (row string : List ℕ) {now₁ now₂ : List ℕ} → now₁ ≡ pad_masked session j row string → now₂ ≡ pad_masked session j row string → now₁ ≡ now₂
mask_unique session j row string p q = p ∙ sym q
