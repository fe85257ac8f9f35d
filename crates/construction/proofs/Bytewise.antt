-- Laws of the definitions of `specs/Transfer.antt`, in its order: lengths, bytes, bits, and that bytes come out. Code is proved by these. Assumes nothing.
use mathlib.Core.Path.{◌≡◌, refl, sym, ap, ap₂, ◌∙◌}
use mathlib.Core.List.{List, ◌++◌}
use mathlib.Core.Bool.{Bool, true, false}
use Prim.Native.Nat.{ℕ, zero, suc, ◌+◌, ◌-◌, ◌*◌, ◌/◌, ◌%◌, ◌^◌, ◌≤◌, ◌<◌, min}
use native.Mathlib.Nat.{div-add-mod', div-lt_iff_lt-mul, lt_of_le_of_lt, min-le_left}
use native.Mathlib.Decide.{dec_lt}
use native.Mathlib.Omega.{arith}
use lib.ListN.{length, get_or, length-take}
use lib.Seq.{ext_get_or, get_or-take}
use lib.Dec.{leb, ltb}
use lib.Arith.{digits_lt, digits_div, digits_mod}
use lib.Bits.{bit_xor, bit_and, differ, xor_lt}
use borrow.Author.Tests.{leb-false, lt-ltb, le-ltb}
use Rattle.basics.specs.Choice.{pick, by_bit}
use Rattle.basics.specs.Bytes.{build, pack, bit, bit_at, line, bit_in, ◌⊕◌, ◌⊙◌, Bytes, be32}
use Rattle.basics.specs.Padding.{col_bytes, padded}
use Rattle.words.specs.Code.{Code, k, word_bytes}
use Rattle.construction.specs.Transfer.{Columns, Selections, cleared, column_of, pad_of, select, hashed, expand, chosen, rows, message, kept, taking, masking, answer, opened, selected}
use Rattle.basics.proofs.Choice.{picked, unpicked, pick_small, by_bit_small}
use Rattle.basics.proofs.Padding.{padded_clear}
use Rattle.words.proofs.Words.{length-word, word_byte, word_bytes_lem, word_place}
use Rattle.basics.proofs.Bytes.{length-build, get_or-build, build_ext, build_bytes, bit_small, pack-bit, pack_ext, pack_small, pack_of, xor-pack, and-pack, length-lines, lines_byte, bit_in-lines, lines_bytes, length-xor, get_or-xor, get_or-and, xor_bytes, get_or-line, length-line, pos_right}
use Rattle.basics.proofs.Bits.{num, num_of, bit_complement, take_bytes, line-build, pack_low, and_bytes, line_bytes, bit_at-line, bit_at-xor, bit_at-and, bit_in-xor}

-- ---- what the checks of a call tell

pub columns_passed : {C : Code} {m : ℕ} {s : List ℕ} → length s ≡ k C * col_bytes m → Bytes s → ((i : ℕ) → i < k C → padded m s i ≡ false) → Columns C m s
columns_passed {m = m} {s = s} e b h = record { long = e; byte = b; clear = λ i hi. padded_clear m s i (h i hi) }

pub selections_passed : {m n : ℕ} {sel : List ℕ} → length sel ≡ m → ((j : ℕ) → j < m → leb n (get_or sel j 0) ≡ false) → Selections m n sel
selections_passed e h = record { long = e; small = λ j hj. leb-false _ _ (h j hj) }

-- ---- the padding cleared

module _ (m : ℕ) (s : List ℕ) where
  pub length-cleared : length (cleared m s) ≡ col_bytes m
  unfolding cleared
  length-cleared = length-build (col_bytes m) _

  pub get_or-cleared : (p : ℕ) → p < col_bytes m → get_or (cleared m s) p 0 ≡ pack 8 (λ e. pick (ltb (p * 8 + e) m) (bit (get_or s p 0) e) 0)
  unfolding cleared
  get_or-cleared p h = get_or-build (col_bytes m) _ p h

  pub cleared_bytes : Bytes (cleared m s)
  unfolding cleared
  cleared_bytes = build_bytes (col_bytes m) _ (λ p h. pack_small 8 _ (λ e. pick_small (ltb (p * 8 + e) m) _ (bit_small (get_or s p 0) e)))

  pub bit_at-cleared : (j : ℕ) → j < col_bytes m * 8 → bit_at (cleared m s) j ≡ pick (ltb j m) (bit_at s j) 0
  bit_at-cleared j h =
      ap (λ (x : ℕ). bit x (j % 8)) (get_or-cleared (j / 8) (omega arith))
      ∙ pack-bit 8 (λ e. pick (ltb (j / 8 * 8 + e) m) (bit (get_or s (j / 8) 0) e) 0) (λ e. pick_small (ltb (j / 8 * 8 + e) m) _ (bit_small (get_or s (j / 8) 0) e))
      (j % 8) (omega arith)
      ∙ ap (λ (x : ℕ). pick (ltb x m) (bit_at s j) 0) (div-add-mod' j 8)

  -- below m the string's own bits, and none from m upward
  pub cleared-kept : (j : ℕ) → j < m → bit_at (cleared m s) j ≡ bit_at s j
  cleared-kept j h = bit_at-cleared j (omega arith) ∙ picked (bit_at s j) 0 (lt-ltb j m h)

  pub cleared_clear : (j : ℕ) → m ≤ j → j < col_bytes m * 8 → bit_at (cleared m s) j ≡ 0
  cleared_clear j h g = bit_at-cleared j g ∙ unpicked (bit_at s j) 0 (le-ltb j m h)

module _ (m : ℕ) (s : List ℕ) where
  -- a byte that is all rows is kept, and of the last one its m - 8 * p low bits
  pub cleared_last : (p : ℕ) → p < col_bytes m → m ≤ p * 8 + 8 → get_or (cleared m s) p 0 ≡ get_or s p 0 % 2 ^ (m - p * 8)
  cleared_last p h g =
      get_or-cleared m s p h
      ∙ pack_ext 8 _ (λ e. pick (ltb e (m - p * 8)) (bit (get_or s p 0) e) 0)
      (λ e r. ap (λ (t : Bool). pick t (bit (get_or s p 0) e) 0) (side e (dec_lt (p * 8 + e) m)))
      ∙ pack_low 8 (m - p * 8) (get_or s p 0) (omega arith)
    where
      side : (e : ℕ) → Dec (p * 8 + e < m) → ltb (p * 8 + e) m ≡ ltb e (m - p * 8)
      side e (yes l) = lt-ltb (p * 8 + e) m l ∙ sym (lt-ltb e (m - p * 8) (omega arith))
      side e (no l) = le-ltb (p * 8 + e) m (omega arith) ∙ sym (le-ltb e (m - p * 8) (omega arith))

  pub cleared_whole : (p : ℕ) → p * 8 + 8 ≤ m → get_or s p 0 < 256 → get_or (cleared m s) p 0 ≡ get_or s p 0
  cleared_whole p h g =
      get_or-cleared m s p (omega arith)
      ∙ pack_ext 8 _ (bit (get_or s p 0)) (λ e r. picked (bit (get_or s p 0) e) 0 (lt-ltb (p * 8 + e) m (omega arith))) ∙ pack_of 8 (get_or s p 0) g

-- ---- the column of a seed, over any block cipher

module _ (block : List ℕ → List ℕ → ℕ → List ℕ) (session : List ℕ) (m : ℕ) (seed : List ℕ) where
  pub length-column_of : length (column_of block session m seed) ≡ col_bytes m
  unfolding column_of
  length-column_of = length-cleared m _

  pub column_of_bytes : Bytes (column_of block session m seed)
  unfolding column_of
  column_of_bytes = cleared_bytes m _

  pub column_of-kept : (j : ℕ) → j < m → bit_at (column_of block session m seed) j ≡ bit_at (block seed session 0 ++ block seed session 1) j
  unfolding column_of
  column_of-kept j h = cleared-kept m _ j h

  pub column_of_clear : (j : ℕ) → m ≤ j → j < col_bytes m * 8 → bit_at (column_of block session m seed) j ≡ 0
  unfolding column_of
  column_of_clear j h g = cleared_clear m _ j h g

-- ---- the pad, over any hash

module _ (hash : List ℕ → List ℕ) (session : List ℕ) (l j : ℕ) (row : List ℕ) where
  pub length-pad_of : l ≤ length (hash (session ++ be32 j ++ row)) → length (pad_of hash session l j row) ≡ l
  unfolding pad_of
  length-pad_of h = simp length-take (omega arith)

  pub get_or-pad_of : (p : ℕ) → p < l → get_or (pad_of hash session l j row) p 0 ≡ get_or (hash (session ++ be32 j ++ row)) p 0
  unfolding pad_of
  get_or-pad_of p h = rw get_or-take

  pub pad_of_bytes : Bytes (hash (session ++ be32 j ++ row)) → Bytes (pad_of hash session l j row)
  unfolding pad_of
  pad_of_bytes h = take_bytes l _ h

-- ---- what the supplier takes, and what it hashes

-- a bit that is chosen by x: b, xor a where the complement of x has 1
under_secret : (x a b : ℕ) → x < 2 → a < 2 → b < 2 → by_bit x (differ a b) b ≡ differ b (min a (1 - x))
under_secret x a b hx ha hb = rw ((num_of x hx).1, (num_of a ha).1, (num_of b hb).1) (tried (num_of x hx).0 (num_of a ha).0 (num_of b hb).0)
  where
    tried : (x a b : Bool) → by_bit (num x) (differ (num a) (num b)) (num b) ≡ differ (num b) (min (num a) (1 - num x))
    tried false false false = refl
    tried false false true = refl
    tried false true false = refl
    tried false true true = refl
    tried true false false = refl
    tried true false true = refl
    tried true true false = refl
    tried true true true = refl

module _ (C : Code) (w : ℕ) (s a b : List ℕ) where
  pub length-select : length (select C w s a b) ≡ k C * w
  unfolding select
  length-select = length-build (k C * w) _

  pub get_or-select : (p : ℕ) → p < k C * w → get_or (select C w s a b) p 0 ≡ by_bit (bit_at s (p / w)) (get_or a p 0) (get_or b p 0)
  unfolding select
  get_or-select p h = get_or-build (k C * w) _ p h

  pub select_byte : (i x : ℕ) → i < k C → x < w → get_or (select C w s a b) (i * w + x) 0 ≡ by_bit (bit_at s i) (get_or a (i * w + x) 0) (get_or b (i * w + x) 0)
  select_byte i x hi hx =
      get_or-select (i * w + x) (digits_lt hi hx) ∙ ap (λ (y : ℕ). by_bit (bit_at s y) (get_or a (i * w + x) 0) (get_or b (i * w + x) 0)) (digits_div i hx)

  pub select-bit : (i j : ℕ) → i < k C → j < w * 8 → bit_in w (select C w s a b) i j ≡ by_bit (bit_at s i) (bit_in w a i j) (bit_in w b i j)
  select-bit i j hi hj =
      ap (λ (x : ℕ). bit x (j % 8)) (select_byte i (j / 8) hi (omega arith)) ∙ inside (bit_at s i) (get_or a (i * w + j / 8) 0) (get_or b (i * w + j / 8) 0)
    where
      inside : (x y z : ℕ) → bit (by_bit x y z) (j % 8) ≡ by_bit x (bit y (j % 8)) (bit z (j % 8))
      inside zero y z = refl
      inside (suc x) y z = refl

  pub select_bytes : Bytes a → Bytes b → Bytes (select C w s a b)
  unfolding select
  select_bytes ha hb = build_bytes (k C * w) _ (λ p h. by_bit_small 256 (bit_at s (p / w)) _ _ (ha p) (hb p))

module _ (C : Code) (m : ℕ) (s q : List ℕ) (j r : ℕ) (hj : j < m) (hq : length q ≡ m * C.width) where
  pub length-hashed : length (hashed C s q j r) ≡ C.width
  unfolding hashed
  length-hashed = length-xor (line C.width q j) _ ∙ length-line C.width q j m hj hq

  pub get_or-hashed : (b : ℕ) → b < C.width
      → get_or (hashed C s q j r) b 0 ≡ bit_xor (get_or q (j * C.width + b) 0) (bit_and (get_or (word_bytes C r) b 0) (get_or s b 0))
  unfolding hashed
  get_or-hashed b h =
      get_or-xor (line C.width q j) _ b (rw (length-line C.width q j m hj hq) h)
      ∙ ap₂ bit_xor (get_or-line C.width q j b h) (get_or-and (word_bytes C r) s b (rw (length-word C r) h))

  pub hashed-bit : (i : ℕ) → i < k C → bit_at (hashed C s q j r) i ≡ differ (bit_in C.width q j i) (min (C.word r i) (bit_at s i))
  unfolding hashed
  hashed-bit i h =
      let hl : i < length (line C.width q j) * 8 = omega (arith, length-line C.width q j m hj hq) in
      let hw : i < length (word_bytes C r) * 8 = omega (arith, length-word C r) in
      bit_at-xor (line C.width q j) (word_bytes C r ⊙ s) i hl
      ∙ ap₂ differ (bit_at-line C.width q j i h) (bit_at-and (word_bytes C r) s i hw ∙ ap (λ (x : ℕ). min x (bit_at s i)) (word_place C r i h))

  pub hashed_bytes : Bytes q → Bytes (hashed C s q j r)
  unfolding hashed
  hashed_bytes h = xor_bytes (line C.width q j) (word_bytes C r ⊙ s) (line_bytes C.width q j h) (and_bytes (word_bytes C r) s (word_bytes_lem C r))

-- ---- expansion

module _ (C : Code) (m : ℕ) (col : List ℕ → List ℕ) (seeds : List ℕ) where
  pub length-expand : length (expand C m col seeds) ≡ k C * col_bytes m
  unfolding expand
  length-expand = length-build (k C * col_bytes m) _

  pub expand_byte : (i b : ℕ) → i < k C → b < col_bytes m → get_or (expand C m col seeds) (i * col_bytes m + b) 0 ≡ get_or (col (line 32 seeds i)) b 0
  unfolding expand
  expand_byte i b hi hb =
      get_or-build (k C * col_bytes m) _ (i * col_bytes m + b) (digits_lt hi hb)
      ∙ ap₂ (λ (x y : ℕ). get_or (col (line 32 seeds x)) y 0) (digits_div i hb) (digits_mod i hb)

  -- column i is the column of seed i
  pub expand-line : (i : ℕ) → i < k C → length (col (line 32 seeds i)) ≡ col_bytes m → line (col_bytes m) (expand C m col seeds) i ≡ col (line 32 seeds i)
  expand-line i hi e =
      ext_get_or 0 _ _ (lx ∙ sym e)
      (λ b h. let hb : b < col_bytes m = rw lx at h in get_or-line (col_bytes m) (expand C m col seeds) i b hb ∙ expand_byte i b hi hb)
    where
      lx : length (line (col_bytes m) (expand C m col seeds) i) ≡ col_bytes m
      lx = length-line (col_bytes m) (expand C m col seeds) i (k C) hi length-expand

  pub expand-bit : (i j : ℕ) → i < k C → j < col_bytes m * 8 → bit_in (col_bytes m) (expand C m col seeds) i j ≡ bit_at (col (line 32 seeds i)) j
  expand-bit i j hi hj = ap (λ (x : ℕ). bit x (j % 8)) (expand_byte i (j / 8) hi (omega arith))

  -- a set that is expanded is one that a call accepts
  pub expand_columns : ((i : ℕ) → i < k C → Bytes (col (line 32 seeds i)))
      → ((i j : ℕ) → i < k C → m ≤ j → j < col_bytes m * 8 → bit_at (col (line 32 seeds i)) j ≡ 0)
      → Columns C m (expand C m col seeds)
  unfolding expand
  expand_columns byte clear = record {
    long = length-expand;
    byte = build_bytes (k C * col_bytes m) _
        (λ p h. byte (p / col_bytes m) ((div-lt_iff_lt-mul (pos_right p (k C) (col_bytes m) h)).1 h) (p % col_bytes m));
    clear = λ i hi j hm hj. expand-bit i j hi hj ∙ clear i j hi hm hj;
  }

-- ---- D and the rows

module _ (C : Code) (m : ℕ) (sel : List ℕ) where
  chosen_digit : (i j : ℕ) → pick (ltb j m) (C.word (get_or sel j 0) i) 0 < 2
  chosen_digit i j = pick_small (ltb j m) _ (C.digit (get_or sel j 0) i)

  pub length-chosen : length (chosen C m sel) ≡ k C * col_bytes m
  unfolding chosen
  length-chosen = length-lines (k C) (col_bytes m) _

  pub chosen_byte : (i b : ℕ) → i < k C → b < col_bytes m
      → get_or (chosen C m sel) (i * col_bytes m + b) 0 ≡ pack 8 (λ e. pick (ltb (b * 8 + e) m) (C.word (get_or sel (b * 8 + e) 0) i) 0)
  unfolding chosen
  chosen_byte i b hi hb = lines_byte (k C) (col_bytes m) _ i b hi hb

  chosen-bit : (i j : ℕ) → i < k C → j < col_bytes m * 8
      → bit_in (col_bytes m) (chosen C m sel) i j ≡ pick (ltb j m) (C.word (get_or sel j 0) i) 0
  unfolding chosen
  chosen-bit i j hi hj = bit_in-lines (k C) (col_bytes m) _ chosen_digit i j hi hj

  pub chosen-row : (i j : ℕ) → i < k C → j < m → bit_in (col_bytes m) (chosen C m sel) i j ≡ C.word (get_or sel j 0) i
  chosen-row i j hi hj = chosen-bit i j hi (omega arith) ∙ picked _ 0 (lt-ltb j m hj)

  pub chosen_clear : (i j : ℕ) → i < k C → m ≤ j → j < col_bytes m * 8 → bit_in (col_bytes m) (chosen C m sel) i j ≡ 0
  chosen_clear i j hi hm hj = chosen-bit i j hi hj ∙ unpicked _ 0 (le-ltb j m hm)

  pub chosen_columns : Columns C m (chosen C m sel)
  unfolding chosen
  chosen_columns = record {
    long = length-chosen;
    byte = lines_bytes (k C) (col_bytes m) _ chosen_digit;
    clear = λ i hi j hm hj. chosen_clear i j hi hm hj;
  }

module _ (C : Code) (m : ℕ) (cols : List ℕ) where
  pub length-rows : length (rows C m cols) ≡ m * C.width
  unfolding rows
  length-rows = length-lines m C.width _

  pub rows_byte : (j b : ℕ) → j < m → b < C.width → get_or (rows C m cols) (j * C.width + b) 0 ≡ pack 8 (λ e. bit_in (col_bytes m) cols (b * 8 + e) j)
  unfolding rows
  rows_byte j b hj hb = lines_byte m C.width _ j b hj hb

  pub rows-line : (j : ℕ) → j < m → line C.width (rows C m cols) j ≡ build C.width (λ b. pack 8 (λ e. bit_in (col_bytes m) cols (b * 8 + e) j))
  rows-line j hj =
      line-build C.width (rows C m cols) j m hj length-rows ∙ build_ext C.width _ _ (λ b hb. rows_byte j b hj hb)

  pub rows-bit : (j i : ℕ) → j < m → i < k C → bit_in C.width (rows C m cols) j i ≡ bit_in (col_bytes m) cols i j
  unfolding rows
  rows-bit j i hj hi = bit_in-lines m C.width _ (λ j i. bit_small _ (j % 8)) j i hj hi

  pub rows_bytes : Bytes (rows C m cols)
  unfolding rows
  rows_bytes = lines_bytes m C.width _ (λ j i. bit_small _ (j % 8))

-- ---- two sets xored

module _ (C : Code) (m : ℕ) where
  pub xor_columns : (a b : List ℕ) → Columns C m a → Columns C m b → Columns C m (a ⊕ b)
  xor_columns a b ca cb = record {
    long = length-xor a b ∙ ca.long;
    byte = xor_bytes a b ca.byte cb.byte;
    clear = λ i hi j hm hj. bit_in-xor (col_bytes m) a b i j (rw ca.long (digits_lt hi (omega arith)))
        ∙ ap₂ differ (ca.clear i hi j hm hj) (cb.clear i hi j hm hj);
  }

-- ---- prepare

module _ (C : Code) (m : ℕ) where
  pub length-message : (u v sel : List ℕ) → length (message C m u v sel) ≡ length u
  unfolding message
  length-message u v sel = length-xor (u ⊕ v) _ ∙ length-xor u v

  pub get_or-message : (u v sel : List ℕ) (p : ℕ) → p < length u
      → get_or (message C m u v sel) p 0 ≡ bit_xor (bit_xor (get_or u p 0) (get_or v p 0)) (get_or (chosen C m sel) p 0)
  unfolding message
  get_or-message u v sel p h =
      get_or-xor (u ⊕ v) (chosen C m sel) p (rw (length-xor u v) h) ∙ ap (λ (x : ℕ). bit_xor x (get_or (chosen C m sel) p 0)) (get_or-xor u v p h)

  pub message-bit : (u v sel : List ℕ) (i j : ℕ) → length u ≡ k C * col_bytes m → i < k C → j < m
      → bit_in (col_bytes m) (message C m u v sel) i j
      ≡ differ (differ (bit_in (col_bytes m) u i j) (bit_in (col_bytes m) v i j)) (C.word (get_or sel j 0) i)
  unfolding message
  message-bit u v sel i j hu hi hj =
      let h : i * col_bytes m + j / 8 < length u = rw hu (digits_lt hi (omega arith)) in
      bit_in-xor (col_bytes m) (u ⊕ v) (chosen C m sel) i j (rw (length-xor u v) h)
      ∙ ap₂ differ (bit_in-xor (col_bytes m) u v i j h) (chosen-row C m sel i j hi hj)

  pub message_columns : (u v sel : List ℕ) → Columns C m u → Columns C m v → Columns C m (message C m u v sel)
  unfolding message
  message_columns u v sel cu cv = xor_columns C m (u ⊕ v) (chosen C m sel) (xor_columns C m u v cu cv) (chosen_columns C m sel)

  pub length-kept : (v sel : List ℕ) → length (kept C m v sel) ≡ m * C.width
  unfolding kept
  length-kept v sel = length-rows C m _

  pub kept-bit : (v sel : List ℕ) (j i : ℕ) → length v ≡ k C * col_bytes m → j < m → i < k C
      → bit_in C.width (kept C m v sel) j i ≡ differ (bit_in (col_bytes m) v i j) (C.word (get_or sel j 0) i)
  unfolding kept
  kept-bit v sel j i hv hj hi =
      rows-bit C m (v ⊕ chosen C m sel) j i hj hi
      ∙ bit_in-xor (col_bytes m) v (chosen C m sel) i j (rw hv (digits_lt hi (omega arith)))
      ∙ ap (differ (bit_in (col_bytes m) v i j)) (chosen-row C m sel i j hi hj)

  -- byte b of kept row j: eight columns' bits xor the selected word's byte
  pub kept_byte : (v sel : List ℕ) (j b : ℕ) → length v ≡ k C * col_bytes m → j < m → b < C.width
      → get_or (kept C m v sel) (j * C.width + b) 0 ≡ bit_xor (pack 8 (λ e. bit_in (col_bytes m) v (b * 8 + e) j)) (get_or (word_bytes C (get_or sel j 0)) b 0)
  unfolding kept
  kept_byte v sel j b hv hj hb =
      rows_byte C m (v ⊕ chosen C m sel) j b hj hb
      ∙ pack_ext 8 _ (λ e. differ (bit_in (col_bytes m) v (b * 8 + e) j) (C.word (get_or sel j 0) (b * 8 + e)))
      (λ e he. let hi : b * 8 + e < k C = omega arith in
      bit_in-xor (col_bytes m) v (chosen C m sel) (b * 8 + e) j (rw hv (digits_lt hi (omega arith)))
      ∙ ap (differ (bit_in (col_bytes m) v (b * 8 + e) j)) (chosen-row C m sel (b * 8 + e) j hi hj))
      ∙ sym (ap (bit_xor (pack 8 (λ e. bit_in (col_bytes m) v (b * 8 + e) j))) (word_byte C (get_or sel j 0) b hb)
      ∙ xor-pack 8 _ _ (λ e. bit_small _ (j % 8)) (λ e. C.digit (get_or sel j 0) (b * 8 + e)))

  pub kept_bytes : (v sel : List ℕ) → Bytes (kept C m v sel)
  unfolding kept
  kept_bytes v sel = rows_bytes C m _

  -- ---- answer

  pub length-taking : (s w t : List ℕ) → length (taking C m s w t) ≡ m * C.width
  unfolding taking
  length-taking s w t = length-rows C m _

  -- the supplier's column i at row j: the message's bit xor the taken one where the secret has 0, and the taken one where it has 1
  taken_bit : (s w t : List ℕ) (i j : ℕ) → length w ≡ k C * col_bytes m → i < k C → j < m
      → bit_in (col_bytes m) (select C (col_bytes m) s (w ⊕ t) t) i j
      ≡ by_bit (bit_at s i) (differ (bit_in (col_bytes m) w i j) (bit_in (col_bytes m) t i j)) (bit_in (col_bytes m) t i j)
  taken_bit s w t i j hw hi hj =
      select-bit C (col_bytes m) s (w ⊕ t) t i j hi (omega arith)
      ∙ ap (λ (x : ℕ). by_bit (bit_at s i) x (bit_in (col_bytes m) t i j)) (bit_in-xor (col_bytes m) w t i j (rw hw (digits_lt hi (omega arith))))

  pub taking-bit : (s w t : List ℕ) (j i : ℕ) → length w ≡ k C * col_bytes m → j < m → i < k C
      → bit_in C.width (taking C m s w t) j i
      ≡ by_bit (bit_at s i) (differ (bit_in (col_bytes m) w i j) (bit_in (col_bytes m) t i j)) (bit_in (col_bytes m) t i j)
  unfolding taking
  taking-bit s w t j i hw hj hi = rows-bit C m _ j i hj hi ∙ taken_bit s w t i j hw hi hj

  -- byte b of row j: the taken columns' row xor the message's row AND the complement of the secret
  pub taking_byte : (s w t : List ℕ) (j b : ℕ) → length w ≡ k C * col_bytes m → get_or s b 0 < 256 → j < m → b < C.width
      → get_or (taking C m s w t) (j * C.width + b) 0
      ≡ bit_xor (get_or (rows C m t) (j * C.width + b) 0) (bit_and (get_or (rows C m w) (j * C.width + b) 0) (255 - get_or s b 0))
  unfolding taking
  taking_byte s w t j b hw hs hj hb =
      rows_byte C m _ j b hj hb
      ∙ pack_ext 8 _ (λ e. differ (theirs t e) (min (theirs w e) (bit (255 - get_or s b 0) e)))
      (λ e he.
      let hi : b * 8 + e < k C = omega arith in
      taken_bit s w t (b * 8 + e) j hw hi hj
      ∙ ap₂ (λ (x y : ℕ). by_bit (bit (get_or s x 0) y) (differ (theirs w e) (theirs t e)) (theirs t e)) (digits_div b he) (digits_mod b he)
      ∙ under_secret (bit (get_or s b 0) e) (theirs w e) (theirs t e) (bit_small _ e) (bit_small _ (j % 8)) (bit_small _ (j % 8))
      ∙ ap (λ (x : ℕ). differ (theirs t e) (min (theirs w e) x)) (sym (bit_complement 8 (get_or s b 0) e hs he)))
      ∙ sym (ap₂ bit_xor (rows_byte C m t j b hj hb)
      (ap (λ (x : ℕ). bit_and x (255 - get_or s b 0)) (rows_byte C m w j b hj hb) ∙ and-pack 8 (theirs w) (255 - get_or s b 0) (λ e. bit_small _ (j % 8)))
      ∙ xor-pack 8 (theirs t) _ (λ e. bit_small _ (j % 8)) (λ e. lt_of_le_of_lt (min-le_left (theirs w e) _) (bit_small _ (j % 8))))
    where
      theirs : List ℕ → ℕ → ℕ
      theirs cols e = bit_in (col_bytes m) cols (b * 8 + e) j

  pub taking_bytes : (s w t : List ℕ) → Bytes (taking C m s w t)
  unfolding taking
  taking_bytes s w t = rows_bytes C m _

-- masking and opening, byte t of the string at row j and place r, or of row j

module _ (C : Code) (pad : ℕ → List ℕ → List ℕ) (m n l : ℕ) where
  pub length-masking : (s q xs : List ℕ) → length (masking C pad m n l s q xs) ≡ m * n * l
  unfolding masking
  length-masking s q xs = length-build (m * n * l) _

  pub masking_byte : (s q xs : List ℕ) (j r t : ℕ) → j < m → r < n → t < l
      → get_or (masking C pad m n l s q xs) ((j * n + r) * l + t) 0 ≡ bit_xor (get_or xs ((j * n + r) * l + t) 0) (get_or (pad j (hashed C s q j r)) t 0)
  unfolding masking
  masking_byte s q xs j r t hj hr ht =
      let x : ℕ = get_or xs ((j * n + r) * l + t) 0 in
      get_or-build (m * n * l) _ ((j * n + r) * l + t) (digits_lt (digits_lt hj hr) ht)
      ∙ ap₂ (λ (a b : ℕ). bit_xor x (get_or (pad (a / n) (hashed C s q (a / n) (a % n))) b 0)) (digits_div (j * n + r) ht) (digits_mod (j * n + r) ht)
      ∙ ap₂ (λ (a b : ℕ). bit_xor x (get_or (pad a (hashed C s q a b)) t 0)) (digits_div j hr) (digits_mod j hr)

  pub masking-line : (s q xs : List ℕ) (j r : ℕ) → length xs ≡ m * n * l → j < m → r < n
      → line l (masking C pad m n l s q xs) (j * n + r) ≡ line l xs (j * n + r) ⊕ pad j (hashed C s q j r)
  masking-line s q xs j r e hj hr =
      ext_get_or 0 _ _ (ly ∙ sym (length-xor (line l xs (j * n + r)) _ ∙ lx))
      (λ b h.
      let hb : b < l = rw ly at h in
      get_or-line l (masking C pad m n l s q xs) (j * n + r) b hb ∙ masking_byte s q xs j r b hj hr hb
      ∙ sym (get_or-xor (line l xs (j * n + r)) _ b (rw lx hb) ∙ ap (λ (x : ℕ). bit_xor x (get_or (pad j (hashed C s q j r)) b 0)) (get_or-line l xs (j * n + r) b hb)))
    where
      lx : length (line l xs (j * n + r)) ≡ l
      lx = length-line l xs (j * n + r) (m * n) (digits_lt hj hr) e

      ly : length (line l (masking C pad m n l s q xs) (j * n + r)) ≡ l
      ly = length-line l (masking C pad m n l s q xs) (j * n + r) (m * n) (digits_lt hj hr) (length-masking s q xs)

  pub masking_bytes : (s q xs : List ℕ) → Bytes xs → ((j : ℕ) (row : List ℕ) → Bytes (pad j row)) → Bytes (masking C pad m n l s q xs)
  unfolding masking
  masking_bytes s q xs hx hp = build_bytes (m * n * l) _ (λ p h. xor_lt 8 _ _ (hx p) (hp (p / l / n) _ (p % l)))

  pub length-answer : (s w t xs : List ℕ) → length (answer C pad m n l s w t xs) ≡ m * n * l
  unfolding answer
  length-answer s w t xs = length-masking s (taking C m s w t) xs

  pub answer_byte : (s w t xs : List ℕ) (j r b : ℕ) → j < m → r < n → b < l
      → get_or (answer C pad m n l s w t xs) ((j * n + r) * l + b) 0
      ≡ bit_xor (get_or xs ((j * n + r) * l + b) 0) (get_or (pad j (hashed C s (taking C m s w t) j r)) b 0)
  unfolding answer
  answer_byte s w t xs j r b hj hr hb = masking_byte s (taking C m s w t) xs j r b hj hr hb

  pub answer_bytes : (s w t xs : List ℕ) → Bytes xs → ((j : ℕ) (row : List ℕ) → Bytes (pad j row)) → Bytes (answer C pad m n l s w t xs)
  unfolding answer
  answer_bytes s w t xs hx hp = masking_bytes s (taking C m s w t) xs hx hp

  pub length-opened : (sel t ys : List ℕ) → length (opened C pad m n l sel t ys) ≡ m * l
  unfolding opened
  length-opened sel t ys = length-build (m * l) _

  pub opened_byte : (sel t ys : List ℕ) (j b : ℕ) → j < m → b < l
      → get_or (opened C pad m n l sel t ys) (j * l + b) 0 ≡ bit_xor (get_or ys ((j * n + get_or sel j 0) * l + b) 0) (get_or (pad j (line C.width t j)) b 0)
  unfolding opened
  opened_byte sel t ys j b hj hb =
      get_or-build (m * l) _ (j * l + b) (digits_lt hj hb)
      ∙ ap₂ (λ (x y : ℕ). bit_xor (get_or ys ((x * n + get_or sel x 0) * l + y) 0) (get_or (pad x (line C.width t x)) y 0)) (digits_div j hb) (digits_mod j hb)

  pub opened-line : (sel t ys : List ℕ) (j : ℕ) → length ys ≡ m * n * l → j < m → get_or sel j 0 < n
      → line l (opened C pad m n l sel t ys) j ≡ line l ys (j * n + get_or sel j 0) ⊕ pad j (line C.width t j)
  opened-line sel t ys j e hj hr =
      ext_get_or 0 _ _ (lz ∙ sym (length-xor (line l ys (j * n + get_or sel j 0)) _ ∙ ly))
      (λ b h.
      let hb : b < l = rw lz at h in
      get_or-line l (opened C pad m n l sel t ys) j b hb ∙ opened_byte sel t ys j b hj hb
      ∙ sym (get_or-xor (line l ys (j * n + get_or sel j 0)) _ b (rw ly hb)
      ∙ ap (λ (x : ℕ). bit_xor x (get_or (pad j (line C.width t j)) b 0)) (get_or-line l ys (j * n + get_or sel j 0) b hb)))
    where
      ly : length (line l ys (j * n + get_or sel j 0)) ≡ l
      ly = length-line l ys (j * n + get_or sel j 0) (m * n) (digits_lt hj hr) e

      lz : length (line l (opened C pad m n l sel t ys) j) ≡ l
      lz = length-line l (opened C pad m n l sel t ys) j m hj (length-opened sel t ys)

  pub opened_bytes : (sel t ys : List ℕ) → Bytes ys → ((j : ℕ) (row : List ℕ) → Bytes (pad j row)) → Bytes (opened C pad m n l sel t ys)
  unfolding opened
  opened_bytes sel t ys hy hp = build_bytes (m * l) _ (λ p h. xor_lt 8 _ _ (hy _) (hp (p / l) _ (p % l)))

module _ (m n l : ℕ) (sel xs : List ℕ) where
  pub length-selected : length (selected m n l sel xs) ≡ m * l
  unfolding selected
  length-selected = length-build (m * l) _

  pub selected_byte : (j b : ℕ) → j < m → b < l → get_or (selected m n l sel xs) (j * l + b) 0 ≡ get_or xs ((j * n + get_or sel j 0) * l + b) 0
  unfolding selected
  selected_byte j b hj hb =
      get_or-build (m * l) _ (j * l + b) (digits_lt hj hb)
      ∙ ap₂ (λ (x y : ℕ). get_or xs ((x * n + get_or sel x 0) * l + y) 0) (digits_div j hb) (digits_mod j hb)
