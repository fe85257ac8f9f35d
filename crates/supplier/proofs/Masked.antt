-- Laws of masking: the row that is hashed, the string of one row and place, and the loops over rows and over places. Assumes nothing.
use mathlib.Core.Path.{◌≡◌, refl, sym, ap, ap₂, ◌∙◌}
use mathlib.Core.List.{List}
use Prim.Native.Nat.{ℕ, ◌+◌, ◌-◌, ◌*◌, ◌/◌, ◌%◌, ◌≤◌, ◌<◌, min}
use native.Mathlib.Nat.{mod-lt, div-add-mod', div-lt_iff_lt-mul, add-mul}
use native.Mathlib.Decide.{ℕ_discrete}
use native.Mathlib.Omega.{arith}
use lib.Arith.{digits_lt, digits_div, digits_mod}
use lib.Bits.{bit_xor, bit_and}
use lib.ListN.{length, get_or, take, drop, length-take, length-drop}
use lib.Seq.{ext_get_or, get_or-take, get_or-drop}
use borrow.Rule.Slice.PartMut.{put_mid, same_len_mid}
use Rattle.basics.specs.Bytes.{build, line, ◌⊕◌}
use Rattle.basics.proofs.Bytes.{length-build, get_or-build, build_is, build_ext, length-line, get_or-and, pos_right, mul_le_both, line_next, line-within}
use Rattle.basics.proofs.Fill.{put_inside, put_outside}
use Rattle.words.specs.Code.{Code, code_of, word_bytes}
use Rattle.words.proofs.Words.{length-word}
use Rattle.construction.specs.Transfer.{hashed}
use Rattle.construction.proofs.Bytewise.{masking_byte, length-masking}
use Rattle.pads.specs.Pads.{pad_bytes}
use Rattle.supplier.specs.Answer.{masked_strings}
use Rattle.supplier.specs.Masking.{Placed}

-- ---- where strings stand

pub string_within : (m n l j r : ℕ) → j < m → r < n → (j * n + r) * l + l ≤ m * n * l
string_within m n l j r hj hr = line-within (m * n) l (j * n + r) (digits_lt hj hr)

pub string_next : (n l j r : ℕ) → ((j + 1) * n + r) * l ≡ (j * n + r) * l + n * l
string_next n l j r =
    ap (λ (x : ℕ). (x + r) * l) (line_next n j) ∙ ap (λ (x : ℕ). x * l) (let e : j * n + n + r ≡ j * n + r + n = omega arith in e) ∙ add-mul (j * n + r) n l

pub volume_few : (m n l : ℕ) → m ≤ 1024 → n ≤ 256 → l ≤ 32 → m * n * l ≤ 8388608
volume_few m n l hm hn hl = mul_le_both (m * n) l 262144 32 (mul_le_both m n 1024 256 hm hn) hl

-- ---- the string of row j at place r, from the row q(j) and the place's word AND the secret

-- the word in 32 bytes serves as well as the word itself
pub hashed_is : (C : Code) (s q : List ℕ) (j r m : ℕ) {row word : List ℕ} → j < m → length q ≡ m * C.width → C.width ≤ 32
    → row ≡ line C.width q j → word ≡ build 32 (λ p. bit_and (get_or (word_bytes C r) p 0) (get_or s p 0)) → row ⊕ word ≡ hashed C s q j r
unfolding hashed ◌⊕◌
hashed_is C s q j r m {row} {word} hj hq hw hr hv =
    ap₂ (λ (a b : List ℕ). build (length a) (λ p. bit_xor (get_or a p 0) (get_or b p 0))) hr hv
    ∙ build_ext (length (line C.width q j)) _ _
    (λ p h.
    let small : p < C.width = omega (arith, length-line C.width q j m hj hq) in
    ap (bit_xor (get_or (line C.width q j) p 0))
    (get_or-build 32 _ p (omega arith) ∙ sym (get_or-and (word_bytes C r) s p (omega (arith, length-word C r)))))

module _ (mode m n l : ℕ) (session secret q strings : List ℕ) where
  abbrev pub F : ℕ → ℕ
  F p = get_or (masked_strings mode m n l session secret q strings) p 0

  pub string_masked : {j r at : ℕ} {string row : List ℕ} → j < m → r < n → length strings ≡ m * n * l → at ≡ (j * n + r) * l → string ≡ take l (drop at strings)
      → row ≡ hashed (code_of mode) secret q j r → string ⊕ pad_bytes session (length string) j row ≡ build l (λ b. F (at + b))
  unfolding ◌⊕◌ masked_strings
  string_masked {j} {r} {at} {string} {row} hj hr hl ha hs hrow =
      ap (λ (x : ℕ). build x (λ p. bit_xor (get_or string p 0) (get_or (pad_bytes session x j row) p 0))) long
      ∙ build_ext l _ _
      (λ b hb.
      ap₂ bit_xor
      (ap (λ (t : List ℕ). get_or t b 0) hs ∙ get_or-take l (drop at strings) b 0 hb ∙ get_or-drop at strings b 0 ∙ ap (λ (x : ℕ). get_or strings (x + b) 0) ha)
      (ap (λ (t : List ℕ). get_or (pad_bytes session l j t) b 0) hrow)
      ∙ sym (ap (λ (x : ℕ). F (x + b)) ha ∙ masking_byte (code_of mode) (pad_bytes session l) m n l secret q strings j r b hj hr hb))
    where
      long : length string ≡ l
      long = ap length hs ∙ (simp (length-take, length-drop) (omega (arith, ha, hl, string_within m n l j r hj hr)))

-- a masked byte goes by the string's byte at its own place
pub masked_agrees : (mode m n l : ℕ) (session secret q s t : List ℕ) (r i b : ℕ) → r < n → i < m → b < l → get_or s ((i * n + r) * l + b) 0 ≡ get_or t ((i * n + r) * l + b) 0
    → F mode m n l session secret q s ((i * n + r) * l + b) ≡ F mode m n l session secret q t ((i * n + r) * l + b)
unfolding masked_strings
masked_agrees mode m n l session secret q s t r i b hr hi hb e =
    masking_byte (code_of mode) (pad_bytes session l) m n l secret q s i r b hi hr hb
    ∙ ap (λ (x : ℕ). bit_xor x (get_or (pad_bytes session l i (hashed (code_of mode) secret q i r)) b 0)) e
    ∙ sym (masking_byte (code_of mode) (pad_bytes session l) m n l secret q t i r b hi hr hb)

-- ---- the loop over the rows, at one place

-- the place and the row of a byte of the string at row j, place r
place_of : (n l j r b : ℕ) → r < n → b < l → ((j * n + r) * l + b) / l % n ≡ r
place_of n l j r b hr hb = ap (λ (x : ℕ). x % n) (digits_div (j * n + r) hb) ∙ digits_mod j hr

row_of : (n l j r b : ℕ) → r < n → b < l → ((j * n + r) * l + b) / l / n ≡ j
row_of n l j r b hr hb = ap (λ (x : ℕ). x / n) (digits_div (j * n + r) hb) ∙ digits_div j hr

pub placed_none : (f : ℕ → ℕ) (n l r : ℕ) (old : List ℕ) → Placed f n l r 0 old old
placed_none f n l r old = record { long = refl; new = λ i b h. absurd (omega arith); same = λ p h. refl }

-- the string of the next row is still the old one
pub placed_next : {f : ℕ → ℕ} {n l r j at : ℕ} {old now : List ℕ} → Placed f n l r j old now → r < n → at ≡ (j * n + r) * l → take l (drop at now) ≡ take l (drop at old)
placed_next {f} {n} {l} {r} {j} {at} {old} {now} z hr ha =
    ext_get_or 0 _ _ (simp (length-take, length-drop) (ap (λ (x : ℕ). min l (x - at)) z.long))
    (λ b h.
    let hb : b < l = omega (arith, length-take l (drop at now)) in
    get_or-take l (drop at now) b 0 hb ∙ get_or-drop at now b 0
    ∙ z.same (at + b) (λ _ h. let e : (at + b) / l / n ≡ j = ap (λ (x : ℕ). (x + b) / l / n) ha ∙ row_of n l j r b hr hb in omega arith)
    ∙ sym (get_or-take l (drop at old) b 0 hb ∙ get_or-drop at old b 0))

pub placed_more : {f : ℕ → ℕ} {n l r j at e : ℕ} {old now ys : List ℕ} → Placed f n l r j old now → r < n → at ≡ (j * n + r) * l → e ≡ at + l → e ≤ length old
    → ys ≡ build l (λ b. f (at + b)) → Placed f n l r (j + 1) old (put_mid at (e - at) now ys)
placed_more {f} {n} {l} {r} {j} {at} {e} {old} {now} {ys} z hr ha he hl hy = record {
  long = ap (λ (x : ℕ). length (put_mid at x now ys)) size ∙ same_len_mid at l now ys (hylen ∙ sym (simp (length-take, length-drop) (omega (arith, z.long)))) ∙ z.long;
  new = λ i b hi hb. ap (λ (x : ℕ). get_or (put_mid at x now ys) ((i * n + r) * l + b) 0) size ∙ fresh i b hi hb (ℕ_discrete i j);
  same = λ p hp. ap (λ (x : ℕ). get_or (put_mid at x now ys) p 0) size
      ∙ put_outside at l now ys fits hylen p
      (λ b hb q.
      let is : p ≡ (j * n + r) * l + b = q ∙ ap (λ (x : ℕ). x + b) ha in
      let row : p / l / n ≡ j = ap (λ (x : ℕ). x / l / n) is ∙ row_of n l j r b hr hb in
      hp (ap (λ (x : ℕ). x / l % n) is ∙ place_of n l j r b hr hb) (omega arith))
      ∙ z.same p (λ place row. hp place (omega arith));
}
  where
    size : e - at ≡ l
    size = omega arith

    hylen : length ys ≡ l
    hylen = ap length hy ∙ length-build l _

    fits : at + l ≤ length now
    fits = omega (arith, z.long)

    here : (b : ℕ) → b < l → get_or (put_mid at l now ys) (at + b) 0 ≡ f (at + b)
    here b hb = put_inside at l now ys fits hylen b hb ∙ ap (λ (s : List ℕ). get_or s b 0) hy ∙ get_or-build l _ b hb

    fresh : (i b : ℕ) → i < j + 1 → b < l → Dec (i ≡ j) → get_or (put_mid at l now ys) ((i * n + r) * l + b) 0 ≡ f ((i * n + r) * l + b)
    fresh i b hi hb (yes q) =
        let p : (i * n + r) * l + b ≡ at + b = ap (λ (x : ℕ). (x * n + r) * l + b) q ∙ ap (λ (x : ℕ). x + b) (sym ha) in
        ap (λ (x : ℕ). get_or (put_mid at l now ys) x 0) p ∙ here b hb ∙ ap f (sym p)
    fresh i b hi hb (no q) =
        put_outside at l now ys fits hylen ((i * n + r) * l + b)
        (λ d hd w.
        q (sym (row_of n l i r b hr hb) ∙ ap (λ (x : ℕ). x / l / n) (w ∙ ap (λ (x : ℕ). x + d) ha) ∙ row_of n l j r d hr hd))
        ∙ z.new i b (omega arith) hb

-- ---- the loop over the places

-- the strings below place r hold f in every row, and the others are the old ones
pub record Masked (f : ℕ → ℕ) (m n l r : ℕ) (old now : List ℕ) : Type 0 where
  pub long : length now ≡ length old
  pub new : (i t b : ℕ) → i < m → t < r → b < l → get_or now ((i * n + t) * l + b) 0 ≡ f ((i * n + t) * l + b)
  pub rest : (p : ℕ) → r ≤ p / l % n → get_or now p 0 ≡ get_or old p 0

pub masked_none : (f : ℕ → ℕ) (m n l : ℕ) {old now : List ℕ} → now ≡ old → Masked f m n l 0 old now
masked_none f m n l {old} {now} e = record {
  long = ap length e;
  new = λ i t b hi ht. absurd (omega arith);
  rest = λ p _. ap (λ (s : List ℕ). get_or s p 0) e;
}

-- the loop over the rows gives place r a value g, which is f's where the strings are the old ones
pub masked_more : {f g : ℕ → ℕ} {m n l r : ℕ} {old now next : List ℕ} → Masked f m n l r old now → Placed g n l r m now next → r < n
    → ((i b : ℕ) → i < m → b < l → get_or now ((i * n + r) * l + b) 0 ≡ get_or old ((i * n + r) * l + b) 0 → g ((i * n + r) * l + b) ≡ f ((i * n + r) * l + b))
    → Masked f m n l (r + 1) old next
masked_more {f} {g} {m} {n} {l} {r} {old} {now} {next} z y hr agree = record {
  long = y.long ∙ z.long;
  new = λ i t b hi ht hb. side i t b hi ht hb (ℕ_discrete t r);
  rest = λ p h. y.same p (λ e _. omega arith) ∙ z.rest p (omega arith);
}
  where
    side : (i t b : ℕ) → i < m → t < r + 1 → b < l → Dec (t ≡ r) → get_or next ((i * n + t) * l + b) 0 ≡ f ((i * n + t) * l + b)
    side i t b hi ht hb (yes q) =
        ap (λ (x : ℕ). get_or next ((i * n + x) * l + b) 0) q ∙ y.new i b hi hb
        ∙ agree i b hi hb (z.rest ((i * n + r) * l + b) (omega (arith, place_of n l i r b hr hb)))
        ∙ ap (λ (x : ℕ). f ((i * n + x) * l + b)) (sym q)
    side i t b hi ht hb (no q) =
        y.same ((i * n + t) * l + b) (λ w _. q (sym (place_of n l i t b (omega arith) hb) ∙ w)) ∙ z.new i t b hi (omega arith) hb

pub masked_end : {f : ℕ → ℕ} {m n l r : ℕ} {old now : List ℕ} → Masked f m n l r old now → n ≤ r → length old ≡ m * n * l → now ≡ build (m * n * l) f
masked_end {f} {m} {n} {l} {r} {old} {now} z hr hl =
    sym
    (build_is (m * n * l) f now (z.long ∙ hl)
    (λ p h.
    let pl : 0 < l = pos_right p (m * n) l h in
    let string : p / l < m * n = (div-lt_iff_lt-mul pl).1 h in
    let pn : 0 < n = pos_right (p / l) m n string in
    let row : p / l / n < m = (div-lt_iff_lt-mul pn).1 string in
    let place : p / l % n < n = mod-lt (p / l) pn in
    let is : (p / l / n * n + p / l % n) * l + p % l ≡ p = ap (λ (x : ℕ). x * l + p % l) (div-add-mod' (p / l) n) ∙ div-add-mod' p l in
    ap f (sym is) ∙ sym (z.new (p / l / n) (p / l % n) (p % l) row (omega arith) (mod-lt p pl)) ∙ ap (λ (x : ℕ). get_or now x 0) is))

-- the masked strings, from their bytes
pub masked_all : (mode m n l : ℕ) (session secret q strings : List ℕ) → build (m * n * l) (F mode m n l session secret q strings) ≡ masked_strings mode m n l session secret q strings
unfolding masked_strings
masked_all mode m n l session secret q strings =
    build_is (m * n * l) _ _ (length-masking (code_of mode) (pad_bytes session l) m n l secret q strings) (λ p h. refl)

pub length_masked : (mode m n l : ℕ) (session secret q strings : List ℕ) → length (masked_strings mode m n l session secret q strings) ≡ m * n * l
unfolding masked_strings
length_masked mode m n l session secret q strings = length-masking (code_of mode) (pad_bytes session l) m n l secret q strings
