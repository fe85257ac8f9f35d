-- Laws of open: one row's part of the opened strings, and that the selected strings, opened, are the rows that open gives. Assumes nothing.
use mathlib.Core.Path.{◌≡◌, refl, sym, ap, ap₂, ◌∙◌}
use mathlib.Core.List.{List}
use Prim.Native.Nat.{ℕ, ◌+◌, ◌-◌, ◌*◌, ◌/◌, ◌%◌, ◌≤◌, ◌<◌}
use native.Mathlib.Nat.{div-lt_iff_lt-mul}
use native.Mathlib.Omega.{arith}
use lib.Arith.{digits_div, digits_mod}
use lib.Bits.{bit_xor}
use lib.ListN.{length, get_or, take, drop, length-drop}
use lib.Seq.{get_or-take, get_or-drop, take_all}
use Rattle.basics.specs.Bytes.{build, line, ◌⊕◌}
use Rattle.basics.proofs.Bytes.{build_ext, line_next, pos_right}
use Rattle.basics.proofs.Fill.{Filled, filled_part}
use borrow.Rule.Slice.PartMut.{put_mid}
use Rattle.words.specs.Code.{code_of}
use Rattle.construction.specs.Transfer.{opened}
use Rattle.pads.specs.Pads.{pad_bytes}
use Rattle.strings.specs.Selected.{selected}
use Rattle.strings.proofs.Selected.{selected_byte}
use Rattle.buyer.specs.Open.{opened_selected, opened_rows}

-- a part that is lent to the end
pub part_all : (s : List ℕ) → take (length s - 27) (drop 27 s) ≡ drop 27 s
part_all s = take_all (length s - 27) (drop 27 s) (omega (arith, length-drop 27 s))

-- ---- byte p of the opened strings

module _ (session : List ℕ) (w l : ℕ) (kept strings : List ℕ) where
  abbrev pub opened_at : ℕ → ℕ
  opened_at p = bit_xor (get_or strings p 0) (get_or (pad_bytes session l (p / l) (line w kept (p / l))) (p % l) 0)

  -- row j's part, from byte a on: its string xor its pad
  pub row_opened : (j a : ℕ) {string row : List ℕ} {len : ℕ} → a ≡ j * l → length string ≡ l → len ≡ l → string ≡ take l (drop a strings) → row ≡ line w kept j
      → string ⊕ pad_bytes session len j row ≡ build l (λ p. opened_at (a + p))
  unfolding ◌⊕◌
  row_opened j a {string} {row} {len} ha hl hn hs hr =
      ap (λ (x : ℕ). build x (λ p. bit_xor (get_or string p 0) (get_or (pad_bytes session len j row) p 0))) hl
      ∙ build_ext l _ _
      (λ p h.
      ap₂ bit_xor (ap (λ (s : List ℕ). get_or s p 0) hs ∙ get_or-take l (drop a strings) p 0 h ∙ get_or-drop a strings p 0)
      (ap₂ (λ (x : ℕ) (t : List ℕ). get_or (pad_bytes session x j t) p 0) hn hr
      ∙ ap₂ (λ (x y : ℕ). get_or (pad_bytes session l x (line w kept x)) y 0)
      (sym (ap (λ (x : ℕ). (x + p) / l) ha ∙ digits_div j h)) (sym (ap (λ (x : ℕ). (x + p) % l) ha ∙ digits_mod j h))))

-- one more row, opened in its part
pub row_more : {f : ℕ → ℕ} (l j : ℕ) {i : ℕ} {old now ys : List ℕ} → i ≡ j → Filled f (j * l) old now → i * l + l ≤ length old
    → ys ≡ build l (λ p. f (i * l + p)) → Filled f ((j + 1) * l) old (put_mid (i * l) (i * l + l - i * l) now ys)
row_more {f} l j {i} {old} {now} e z h hy =
    let begun : Filled f (i * l) old now = rw e z in
    let next : (j + 1) * l ≡ i * l + l = line_next l j ∙ ap (λ (x : ℕ). x * l + l) (sym e) in
    rw next (filled_part l begun refl h hy)

-- all rows
pub rows-opened : (mode m l w : ℕ) (session kept strings : List ℕ) {now : List ℕ} → w ≡ (code_of mode).width
    → now ≡ build (m * l) (opened_at session w l kept strings) → now ≡ opened_selected mode m l session kept strings
unfolding opened_selected
rows-opened mode m l w session kept strings hw e = e ∙ ap (λ (x : ℕ). build (m * l) (opened_at session x l kept strings)) hw

-- the selected strings, opened
pub selected-opened : (mode m n l : ℕ) (session selections kept strings : List ℕ) → ((j : ℕ) → j < m → get_or selections j 0 < n)
    → opened_selected mode m l session kept (selected m n l selections strings) ≡ opened_rows mode m n l session selections kept strings
unfolding opened_selected opened_rows opened
selected-opened mode m n l session selections kept strings small =
    build_ext (m * l) _ _
    (λ p h.
    ap (λ (x : ℕ). bit_xor x (get_or (pad_bytes session l (p / l) (line (code_of mode).width kept (p / l))) (p % l) 0))
    (selected_byte m n l selections strings p h (small (p / l) ((div-lt_iff_lt-mul (pos_right p m l h)).1 h))))
