-- How a row's selected string is gathered: all strings under masks, into a workspace of h strings in which it then stands alone.
use Rattle.std.specs.Prelude.{◌≡◌, List, ℕ, ◌+◌, ◌*◌, ◌≤◌, ◌<◌, eqb, length, get_or}
use Rattle.std.specs.Int.Bits.{bit_xor, bit_and}
use Rattle.basics.specs.Choice.{pick}
use Rattle.basics.specs.Bytes.{build}

-- all ones where two bytes are equal, else nothing
abbrev pub equal_mask : ℕ → ℕ → ℕ
equal_mask a b = pick (eqb a b) 255 0

-- byte p of src where it stands at a place, else 0
abbrev pub under : ℕ → List ℕ → List ℕ → ℕ → ℕ
under place places src p = bit_and (get_or src p 0) (equal_mask (get_or places p 0) place)

-- a workspace after the bytes of src that stand at a place were xored into it, and those of more that stand at another
unfoldable pub added : ℕ → ℕ → List ℕ → List ℕ → List ℕ → List ℕ → List ℕ
added place other places src more work = build (length work) (λ p. bit_xor (bit_xor (get_or work p 0) (under place places src p)) (under other places more p))

-- byte p of k strings of l bytes is w p: one of the strings is s, and the others are zeros
pub record Alone (l k : ℕ) (s w : ℕ → ℕ) : Type 0 where
  pub slot : ℕ
  pub within : slot < k
  pub here : (t : ℕ) → t < l → w (slot * l + t) ≡ s t
  pub none : (x t : ℕ) → x < k → (x ≡ slot → ⊥) → t < l → w (x * l + t) ≡ 0

-- what stands after len bytes from `at` on were xored into the first ones
pub record Folded (at len : ℕ) (old now : List ℕ) : Type 0 where
  pub first : (p : ℕ) → p < len → get_or now p 0 ≡ bit_xor (get_or old p 0) (get_or old (at + p) 0)
  pub rest : (p : ℕ) → len ≤ p → get_or now p 0 ≡ get_or old p 0

-- what stands after the first len bytes were put once more from `at` on, each greater by a number
pub record PutOn (at len by : ℕ) (old now : List ℕ) : Type 0 where
  pub put : (p : ℕ) → p < len → get_or now (at + p) 0 ≡ get_or old p 0 + by
  pub before : (p : ℕ) → p < at → get_or now p 0 ≡ get_or old p 0
  pub after : (p : ℕ) → at + len ≤ p → get_or now p 0 ≡ get_or old p 0
