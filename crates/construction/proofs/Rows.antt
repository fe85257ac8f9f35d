-- The source's note at step 5, over any code: row q(j) is kept row j xor (the selected word AND the secret). So at the selected place the hashed row is
-- the kept row, for every secret. Shown bit by bit; a bit's cases are tried as truth values. Assumes nothing.
use mathlib.Core.Path.{◌≡◌, refl, sym, ap, ap₂, ◌∙◌}
use mathlib.Core.List.{List}
use mathlib.Core.Bool.{Bool, true, false}
use Prim.Native.Nat.{ℕ, ◌*◌, ◌%◌, ◌<◌, min}
use native.Mathlib.Omega.{arith}
use lib.ListN.{length, get_or}
use lib.Bits.{differ}
use Rattle.basics.specs.Choice.{by_bit}
use Rattle.basics.specs.Bytes.{bit_at, line, bit_in, ◌⊕◌, ◌⊙◌}
use Rattle.basics.specs.Padding.{col_bytes}
use Rattle.words.specs.Code.{Code, k, word_bytes}
use Rattle.construction.specs.Transfer.{select, hashed, message, kept, taking}
use Rattle.basics.proofs.Bytes.{bit_small, xor_bytes, length-xor, xor_undoes, length-line}
use Rattle.basics.proofs.Bits.{num, num_of, and_bytes, line_bytes, bit_at-line, bit_at-xor, bit_at-and, bits_ext}
use Rattle.words.proofs.Words.{length-word, word_bytes_lem, word_place}
use Rattle.construction.proofs.Bytewise.{select-bit, length-message, message-bit, length-kept, kept-bit, kept_bytes, length-taking, taking-bit, taking_bytes}

-- ---- one bit

-- the supplier's bit, where it took u or v as the secret's bit x says and the message has u xor v xor d
abbrev supplied : ℕ → ℕ → ℕ → ℕ → ℕ
supplied x u v d = by_bit x (differ (differ (differ u v) d) (by_bit x u v)) (by_bit x u v)

tried : (x u v d : Bool) → supplied (num x) (num u) (num v) (num d) ≡ differ (differ (num v) (num d)) (min (num d) (num x))
tried false false false false = refl
tried false false false true = refl
tried false false true false = refl
tried false false true true = refl
tried false true false false = refl
tried false true false true = refl
tried false true true false = refl
tried false true true true = refl
tried true u false false = refl
tried true u false true = refl
tried true u true false = refl
tried true u true true = refl

supplied_is : (x u v d : ℕ) → x < 2 → u < 2 → v < 2 → d < 2 → supplied x u v d ≡ differ (differ v d) (min d x)
supplied_is x u v d hx hu hv hd = rw ((num_of x hx).1, (num_of u hu).1, (num_of v hv).1, (num_of d hd).1) (tried (num_of x hx).0 (num_of u hu).0 (num_of v hv).0 (num_of d hd).0)

-- ---- the rows, over any code

module _ (C : Code) (m : ℕ) (s u v sel : List ℕ) (hu : length u ≡ k C * col_bytes m) (hv : length v ≡ k C * col_bytes m) (j : ℕ) (hj : j < m) where
  abbrev q : List ℕ
  q = taking C m s (message C m u v sel) (select C (col_bytes m) s u v)

  abbrev keeps : List ℕ
  keeps = kept C m v sel

  abbrev r : ℕ
  r = get_or sel j 0

  q-bit : (i : ℕ) → i < k C → bit_in C.width q j i ≡ differ (bit_in C.width keeps j i) (min (C.word r i) (bit_at s i))
  q-bit i hi =
      taking-bit C m s (message C m u v sel) (select C (col_bytes m) s u v) j i (length-message C m u v sel ∙ hu) hj hi
      ∙ ap₂ (λ (a b : ℕ). by_bit (bit_at s i) (differ a b) b) (message-bit C m u v sel i j hu hi hj)
      (select-bit C (col_bytes m) s u v i j hi (omega arith))
      ∙ supplied_is (bit_at s i) (bit_in (col_bytes m) u i j) (bit_in (col_bytes m) v i j) (C.word r i)
      (bit_small _ (i % 8)) (bit_small _ (j % 8)) (bit_small _ (j % 8)) (C.digit r i)
      ∙ ap (λ (y : ℕ). differ y (min (C.word r i) (bit_at s i))) (sym (kept-bit C m v sel j i hv hj hi))

  long : (t : List ℕ) → length t ≡ m * C.width → length (line C.width t j) ≡ C.width
  long t e = length-line C.width t j m hj e

  -- q(j) is kept row j xor (the selected word AND the secret)
  pub row_taken : line C.width q j ≡ line C.width keeps j ⊕ (word_bytes C r ⊙ s)
  row_taken =
      bits_ext (line C.width q j) (line C.width keeps j ⊕ (word_bytes C r ⊙ s))
      (lq ∙ sym (length-xor (line C.width keeps j) _ ∙ lk))
      (line_bytes C.width q j (taking_bytes C m _ _ _))
      (xor_bytes _ _ (line_bytes C.width keeps j (kept_bytes C m v sel)) (and_bytes (word_bytes C r) s (word_bytes_lem C r)))
      (λ i h.
      let hi : i < k C = omega (arith, lq) in
      let hl : i < length (line C.width keeps j) * 8 = omega (arith, lk) in
      let hw : i < length (word_bytes C r) * 8 = omega (arith, length-word C r) in
      bit_at-line C.width q j i hi ∙ q-bit i hi
      ∙ sym (bit_at-xor (line C.width keeps j) (word_bytes C r ⊙ s) i hl
      ∙ ap₂ differ (bit_at-line C.width keeps j i hi) (bit_at-and (word_bytes C r) s i hw ∙ ap (λ (x : ℕ). min x (bit_at s i)) (word_place C r i hi))))
    where
      lq : length (line C.width q j) ≡ C.width
      lq = long q (length-taking C m _ _ _)

      lk : length (line C.width keeps j) ≡ C.width
      lk = long keeps (length-kept C m v sel)

  -- so what is hashed at place p is that, xor (word p AND the secret)
  pub hashed_is : (p : ℕ) → hashed C s q j p ≡ line C.width keeps j ⊕ (word_bytes C r ⊙ s) ⊕ (word_bytes C p ⊙ s)
  unfolding hashed
  hashed_is p = ap (λ (t : List ℕ). t ⊕ (word_bytes C p ⊙ s)) row_taken

  -- and at the selected place it is the kept row
  pub hashed-selected : hashed C s q j r ≡ line C.width keeps j
  hashed-selected = hashed_is r ∙ xor_undoes (line C.width keeps j) (word_bytes C r ⊙ s)
