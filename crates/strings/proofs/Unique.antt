-- Document 01, section 11: two results that the contract of `select` allows are equal. Assumes nothing.
use mathlib.Core.Path.{◌≡◌, sym, ◌∙◌}
use mathlib.Core.List.{List}
use Prim.Native.Nat.{ℕ}
use Rattle.strings.specs.Selected.{selected_over}

pub select_unique : (m n l : ℕ) (selections strings old : List ℕ) {now₁ now₂ : List ℕ} → now₁ ≡ selected_over m n l selections strings old → now₂ ≡ selected_over m n l selections strings old
    → now₁ ≡ now₂
select_unique m n l selections strings old p q = p ∙ sym q
