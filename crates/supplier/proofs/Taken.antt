-- Laws of taking: the columns of eight entries of a set, and a byte of each row. Assumes nothing.
use mathlib.Core.Path.{◌≡◌, sym, ap, ap₂, ◌∙◌}
use mathlib.Core.Bool.{Bool, true, false}
use mathlib.Core.List.{List}
use Prim.Native.Nat.{ℕ, ◌+◌, ◌-◌, ◌*◌, ◌/◌, ◌%◌, ◌≤◌, ◌<◌}
use native.Mathlib.Nat.{mod-lt, div-lt_iff_lt-mul, div-add-mod', add-mul, mul_assoc, mul-le-mul_right}
use native.Mathlib.Omega.{arith}
use lib.Arith.{digits_lt, digits_div, digits_mod}
use lib.Bits.{bit_xor, bit_and}
use lib.ListN.{length, get_or, take, drop, length-take, length-drop}
use lib.Seq.{get_or-take, get_or-drop, ext_get_or, take_all}
use Rattle.basics.specs.Choice.{pick}
use Rattle.basics.specs.Bytes.{build, line, ◌⊕◌}
use Rattle.basics.specs.Padding.{col_bytes}
use Rattle.basics.proofs.Bytes.{length-build, get_or-build, get_or-line, pos_right, zeros-xor}
use Rattle.basics.proofs.Choice.{picked}
use Rattle.words.specs.Code.{Code, k, code_of}
use Rattle.construction.specs.Transfer.{taking}
use Rattle.construction.proofs.Bytewise.{rows_byte, taking_byte}
use Rattle.columns.specs.Sets.{seed_column, expanded, columns_of, entry_bytes, set_fit}
use Rattle.columns.specs.Gathered.{joined}
use Rattle.columns.proofs.Sets.{set_fit_passed, length-columns_of}
use Rattle.columns.proofs.Gathered.{gathered_lent}
use Rattle.columns.proofs.Sizes.{k_of_lem}
use Rattle.supplier.specs.Answer.{taken_rows}

-- ---- eight entries of a set, and the columns they stand for

-- eight entries added to zeros are their columns
pub zeros-added : (seeded : Bool) (m : ℕ) (session taken zeros old : List ℕ) {now : List ℕ} → zeros ≡ build (length old) (λ p. 0)
    → now ≡ pick (set_fit seeded 8 m (length session) (length taken) (length zeros)) (zeros ⊕ columns_of seeded 8 m session taken) zeros
    → set_fit seeded 8 m (length session) (length taken) (length old) ≡ true → now ≡ columns_of seeded 8 m session taken
zeros-added seeded m session taken zeros old ez e fits =
    let long : length zeros ≡ length old = ap length ez ∙ length-build (length old) _ in
    let f = set_fit_passed seeded 8 m (length session) (length taken) (length old) fits in
    e ∙ picked _ _ (ap (set_fit seeded 8 m (length session) (length taken)) long ∙ fits)
    ∙ ap (λ (z : List ℕ). z ⊕ columns_of seeded 8 m session taken) ez
    ∙ zeros-xor (length old) (columns_of seeded 8 m session taken) (length-columns_of seeded 8 m session taken f.set_long ∙ sym f.block_long)

-- byte p from column 8g on stands in column 8g + p div c, of which p div c is below 8
record ColumnPlace (m g p : ℕ) : Type 0 where
  small : p / col_bytes m < 8
  column : (g * (8 * col_bytes m) + p) / col_bytes m ≡ g * 8 + p / col_bytes m
  byte : (g * (8 * col_bytes m) + p) % col_bytes m ≡ p % col_bytes m

column_place : (m g p : ℕ) → p < 8 * col_bytes m → ColumnPlace m g p
column_place m g p hp = record {
  small = (div-lt_iff_lt-mul some).1 hp;
  column = ap (λ (x : ℕ). x / col_bytes m) split ∙ digits_div (g * 8 + p / col_bytes m) (mod-lt p some);
  byte = ap (λ (x : ℕ). x % col_bytes m) split ∙ digits_mod (g * 8 + p / col_bytes m) (mod-lt p some);
}
  where
    some : 0 < col_bytes m
    some = pos_right p 8 (col_bytes m) hp

    split : g * (8 * col_bytes m) + p ≡ (g * 8 + p / col_bytes m) * col_bytes m + p % col_bytes m
    split = omega (arith, add-mul (g * 8) (p / col_bytes m) (col_bytes m), mul_assoc g 8 (col_bytes m), div-add-mod' p (col_bytes m))

place_within : (m g h p : ℕ) → g < h → p < 8 * col_bytes m → g * (8 * col_bytes m) + p < h * 8 * col_bytes m
place_within m g h p hg hp = rw (mul_assoc h 8 (col_bytes m)) (digits_lt hg hp)

-- seed e of eight that were lent from seed 8g on
seed_lent : (g e h : ℕ) (seeds : List ℕ) → e < 8 → g < h → length seeds ≡ h * 256 → line 32 (take 256 (drop (g * 256) seeds)) e ≡ line 32 seeds (g * 8 + e)
seed_lent g e h seeds he hg hl =
    ext_get_or 0 _ _ (inner ∙ sym outer)
    (λ p l.
    let small : p < 32 = omega (arith, inner) in
    get_or-line 32 (take 256 (drop (g * 256) seeds)) e p small ∙ get_or-take 256 (drop (g * 256) seeds) (e * 32 + p) 0 (omega arith)
    ∙ get_or-drop (g * 256) seeds (e * 32 + p) 0 ∙ ap (λ (x : ℕ). get_or seeds x 0) (let q : g * 256 + (e * 32 + p) ≡ (g * 8 + e) * 32 + p = omega arith in q)
    ∙ sym (get_or-line 32 seeds (g * 8 + e) p small))
  where
    room : g * 256 + 256 ≤ h * 256
    room = let q : (g + 1) * 256 ≤ h * 256 = mul-le-mul_right 256 (omega arith) in omega arith

    inner : length (line 32 (take 256 (drop (g * 256) seeds)) e) ≡ 32
    inner = simp (length-take, length-drop) (omega arith)

    outer : length (line 32 seeds (g * 8 + e)) ≡ 32
    outer = simp (length-take, length-drop) (omega arith)

seeds_lent : (m g h : ℕ) (session seeds : List ℕ) → g < h → length seeds ≡ h * 256 → (p : ℕ) → p < 8 * col_bytes m
    → get_or (expanded 8 m session (take 256 (drop (g * 256) seeds))) p 0 ≡ get_or (expanded (h * 8) m session seeds) (g * (8 * col_bytes m) + p) 0
unfolding expanded
seeds_lent m g h session seeds hg hl p hp =
    let q = column_place m g p hp in
    get_or-build (8 * c) _ p hp
    ∙ ap₂ (λ (t : List ℕ) (x : ℕ). get_or (seed_column session m t) x 0)
    (seed_lent g (p / c) h seeds q.small hg hl ∙ ap (line 32 seeds) (sym q.column)) (sym q.byte)
    ∙ sym (get_or-build (h * 8 * c) _ (g * (8 * c) + p) (place_within m g h p hg hp))
  where
    c : ℕ
    c = col_bytes m

-- byte p of the columns of eight entries, lent from entry 8g on, is byte p from column 8g on
pub columns_lent : (seeded : Bool) (m g h : ℕ) (session set : List ℕ) → g < h → length set ≡ h * (8 * entry_bytes seeded m) → (p : ℕ) → p < 8 * col_bytes m
    → get_or (columns_of seeded 8 m session (take (8 * entry_bytes seeded m) (drop (g * (8 * entry_bytes seeded m)) set))) p 0
    ≡ get_or (columns_of seeded (h * 8) m session set) (g * (8 * col_bytes m) + p) 0
columns_lent false m g h session set hg hl p hp = get_or-take _ (drop (g * (8 * col_bytes m)) set) p 0 hp ∙ get_or-drop _ set p 0
columns_lent true m g h session set hg hl p hp = seeds_lent m g h session set hg hl p hp

-- ---- a byte of each row

module _ (C : Code) (seeded : Bool) (m : ℕ) (session secret block taken : List ℕ) where
  -- the columns that were taken, and the rows q
  abbrev theirs : List ℕ
  theirs = columns_of seeded (k C) m session taken

  abbrev pub rows_q : List ℕ
  rows_q = taking C m secret block theirs

  -- byte g of row j, from the eight columns of the entries 8g on and the message's from column 8g on
  pub taken_at : (g : ℕ) (eight others : List ℕ) → g < C.width → length block ≡ C.width * (8 * col_bytes m) → length taken ≡ C.width * (8 * entry_bytes seeded m)
      → get_or secret g 0 < 256 → eight ≡ columns_of seeded 8 m session (take (8 * entry_bytes seeded m) (drop (g * (8 * entry_bytes seeded m)) taken))
      → others ≡ take (8 * col_bytes m) (drop (g * (8 * col_bytes m)) block) → (j : ℕ) → j < m
      → joined (col_bytes m) (255 - get_or secret g 0) eight others j ≡ get_or rows_q (j * C.width + g) 0
  taken_at g eight others hg hb ht hs he ho j hj =
      ap₂ (λ (x y : ℕ). bit_xor x (bit_and y (255 - get_or secret g 0)))
      (gathered_lent (col_bytes m) g j theirs eight (omega arith) (λ p hp. ap (λ (s : List ℕ). get_or s p 0) he ∙ columns_lent seeded m g C.width session taken hg ht p hp)
      ∙ sym (rows_byte C m theirs j g hj hg))
      (gathered_lent (col_bytes m) g j block others (omega arith)
      (λ p hp. ap (λ (s : List ℕ). get_or s p 0) ho ∙ get_or-take _ (drop (g * (8 * col_bytes m)) block) p 0 hp ∙ get_or-drop _ block p 0)
      ∙ sym (rows_byte C m block j g hj hg))
      ∙ sym (taking_byte C m secret block theirs j g (hb ∙ sym (mul_assoc C.width 8 (col_bytes m))) hs hj hg)

-- ---- the rows that stand in a workspace

-- they are taken from the message's block, which is lent from byte 27 on
pub taken_rows_lem : (seeded : Bool) (mode m : ℕ) (session secret taken received : List ℕ) {q : List ℕ}
    → q ≡ taking (code_of mode) m secret (take (length received - 27) (drop 27 received)) (columns_of seeded (k (code_of mode)) m session taken)
    → q ≡ taken_rows seeded mode m session secret taken received
unfolding taken_rows
taken_rows_lem seeded mode m session secret taken received e =
    e ∙ ap₂ (λ (b : List ℕ) (x : ℕ). taking (code_of mode) m secret b (columns_of seeded x m session taken))
    (take_all (length received - 27) (drop 27 received) (rw length-drop (omega arith))) (sym (k_of_lem mode))
