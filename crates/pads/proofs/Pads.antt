-- Laws of pads: their length, and how the hashed bytes are put together. Assumes nothing.
use mathlib.Core.Path.{◌≡◌, refl, sym, ap, ap₂, ◌∙◌}
use mathlib.Core.Bool.{Bool, true, false}
use mathlib.Core.List.{List, [], ◌++◌, ◌∷◌, append-nil}
use Prim.Native.Nat.{ℕ, ◌+◌, ◌-◌, ◌/◌, ◌%◌, ◌^◌, ◌<◌, ◌≤◌}
use native.Mathlib.Nat.{sub-zero}
use native.Mathlib.Omega.{arith}
use lib.ListN.{length, take, drop, replicate, length-append}
use lib.Seq.{drop_at, take_all, take-append-add, get_or-take}
use borrow.Author.Tests.{eqb-true, leb-true, eq-eqb, le-leb}
use borrow.Rule.Slice.PartMut.{put_mid}
use Rattle.std.specs.Int.{w32, to_be_bytes}
use Rattle.basics.specs.Choice.{pick}
use Rattle.basics.specs.Bytes.{Bytes, from, build, be32, ◌⊕◌}
use Rattle.basics.proofs.Choice.{both, picked}
use Rattle.basics.proofs.Bytes.{length-build, get_or-build, xor_agree, xor_front, xor_strings_comm, zeros-xor}
use Rattle.basics.proofs.Fill.{put_next}
use Rattle.basics.specs.declared.Verdict.{Verdict}
use Rattle.basics.specs.Verdicts.{unless, Gives}
use Rattle.basics.proofs.Verdicts.{gives_passed}
use Rattle.symmetric.specs.Calls.{hash_verdict}
use Rattle.construction.specs.Transfer.{pad_of}
use Rattle.construction.proofs.Bytewise.{length-pad_of, pad_of_bytes}
use Rattle.symmetric.specs.Sha.{sha256}
use Rattle.symmetric.proofs.Facts.{length-sha256, sha256_bytes}
use Rattle.pads.specs.Pads.{pad_bytes, pad_fit, pad_masked}

-- ---- the pad

module _ (session : List ℕ) (l j : ℕ) (row : List ℕ) where
  pub length-pad_bytes : l ≤ 32 → length (pad_bytes session l j row) ≡ l
  unfolding pad_bytes
  length-pad_bytes h = length-pad_of sha256 session l j row (rw (length-sha256 (session ++ be32 j ++ row)) h)

  pub pad_bytes_bytes : Bytes (pad_bytes session l j row)
  unfolding pad_bytes
  pad_bytes_bytes = pad_of_bytes sha256 session l j row (sha256_bytes (session ++ be32 j ++ row))

-- ---- the guard

pub record PadFit (session row l : ℕ) : Type 0 where
  pub session_long : session ≡ 12
  pub row_few : row ≤ 32
  pub pad_few : l ≤ 32

pub pad_fit_passed : (session row l : ℕ) → pad_fit session row l ≡ true → PadFit session row l
pad_fit_passed session row l e =
    let (a, b) = both _ _ e in
    let (c, d) = both _ _ b in
    record { session_long = eqb-true _ _ a; row_few = leb-true _ _ c; pad_few = leb-true _ _ d }

pub pad_fit_holds : (session row l : ℕ) → session ≡ 12 → row ≤ 32 → l ≤ 32 → pad_fit session row l ≡ true
pad_fit_holds session row l a b c = simp (eq-eqb session 12 a, le-leb row 32 b, le-leb l 32 c)

-- a string that is left as it was where they do not
pub pad_unfit : (session : List ℕ) (j : ℕ) (row string : List ℕ) → (PadFit (length session) (length row) (length string) → ⊥) → string ≡ pad_masked session j row string
unfolding pad_masked
pad_unfit session j row string h = side (pad_fit (length session) (length row) (length string)) refl
  where
    side : (t : Bool) → pad_fit (length session) (length row) (length string) ≡ t → string ≡ pick t (string ⊕ pad_bytes session (length string) j row) string
    side true e = absurd (h (pad_fit_passed _ _ _ e))
    side false e = refl

-- what a caller learns where the lengths fit
pub pad_masked_fit : (session : List ℕ) (j : ℕ) (row string : List ℕ) → length session ≡ 12 → length row ≤ 32 → length string ≤ 32
    → pad_masked session j row string ≡ string ⊕ pad_bytes session (length string) j row
unfolding pad_masked
pad_masked_fit session j row string a b c = picked _ _ (pad_fit_holds (length session) (length row) (length string) a b c)

-- the bytes of a longer pad beyond the string play no part
pub pad_front : (session : List ℕ) (j : ℕ) (row string : List ℕ) → length string ≤ 32 → string ⊕ pad_bytes session 32 j row ≡ string ⊕ pad_bytes session (length string) j row
unfolding pad_bytes pad_of
pad_front session j row string h =
    xor_agree string _ _
    (λ p l. get_or-take 32 (sha256 (session ++ be32 j ++ row)) p 0 (omega arith) ∙ sym (get_or-take (length string) (sha256 (session ++ be32 j ++ row)) p 0 l))

-- ---- the hashed bytes, put together from three parts of 48 zeros

-- zeros with a string xored over their front hold it there
zeros_front : (k : ℕ) (r : List ℕ) → length r ≤ k → take (length r) (build k (λ p. 0) ⊕ r) ≡ r
zeros_front k r h =
    xor_front r (build k (λ p. 0)) (rw length-build h)
    ∙ xor_agree r _ (build (length r) (λ p. 0)) (λ p l. get_or-build k (λ p. 0) p (omega arith) ∙ sym (get_or-build (length r) (λ p. 0) p l))
    ∙ xor_strings_comm r (build (length r) (λ p. 0)) (sym (length-build (length r) (λ p. 0))) ∙ zeros-xor (length r) r refl

module _ (rest s n : List ℕ) (zeros : rest ≡ replicate 36 0) (hs : length s ≡ 12) (hn : length n ≡ 4) where
  front : length (s ++ n) ≡ 16
  front = length-append s n ∙ omega arith

  -- after the two copies
  copied : put_mid 12 4 (s ++ rest) n ≡ (s ++ n) ++ replicate 32 0
  copied = ap (λ (a : List ℕ). put_mid 12 4 (s ++ a) n) zeros ∙ put_next 12 4 s (replicate 36 0) n hs

  -- what the row is xored over
  open_part : take 32 (drop 16 (put_mid 12 4 (s ++ rest) n)) ≡ build 32 (λ p. 0)
  unfolding build from
  open_part = ap (λ (a : List ℕ). take 32 (drop 16 a)) copied ∙ ap (take 32) (drop_at (s ++ n) (replicate 32 0) 16 front)

  pub three_parts : (r : List ℕ) {z : List ℕ} → length r ≤ 32 → z ≡ take 32 (drop 16 (put_mid 12 4 (s ++ rest) n)) ⊕ r
      → take (16 + length r) (put_mid 16 32 (put_mid 12 4 (s ++ rest) n) z) ≡ (s ++ n) ++ r
  three_parts r {z} hr ez =
      ap (λ (a : List ℕ). take (16 + length r) (put_mid 16 32 a z)) copied
      ∙ ap (take (16 + length r)) (put_next 16 32 (s ++ n) (replicate 32 0) z front ∙ append-nil ((s ++ n) ++ z))
      ∙ ap (λ (k : ℕ). take (k + length r) ((s ++ n) ++ z)) (sym front)
      ∙ take-append-add (s ++ n) z (length r)
      ∙ ap (λ (a : List ℕ). (s ++ n) ++ a) (ap (take (length r)) (ez ∙ ap (λ (a : List ℕ). a ⊕ r) open_part) ∙ zeros_front 32 r hr)

-- the number's bytes as std gives them
pub number_bytes : (j : ℕ) {n : List ℕ} → j < 2 ^ 32 → n ≡ to_be_bytes w32 j → n ≡ be32 j
number_bytes j h e =
    let high : j / 16777216 % 256 ≡ j / 16777216 = omega arith in
    e ∙ ap (λ (x : ℕ). x ∷ j / 65536 % 256 ∷ j / 256 % 256 ∷ j % 256 ∷ []) high

-- the same of parts that are these: the session, the number's bytes and zeros
pub input_parts : (j : ℕ) {session x y rest : List ℕ} → x ≡ session → y ≡ be32 j → rest ≡ replicate 36 0 → length session ≡ 12
    → (r : List ℕ) {z : List ℕ} → length r ≤ 32 → z ≡ take 32 (drop 16 (put_mid 12 4 (x ++ rest) y)) ⊕ r
    → take (16 + length r) (put_mid 16 32 (put_mid 12 4 (x ++ rest) y) z) ≡ (session ++ be32 j) ++ r
input_parts j {session} {x} {y} {rest} ex ey zeros hs r {z} hr ez =
    three_parts rest x y zeros (ap length ex ∙ hs) (ap length ey) r hr ez ∙ ap₂ (λ (a b : List ℕ). (a ++ b) ++ r) ex ey

-- ---- the digest

-- the hash never refuses so few bytes
pub hash_passed : {n : ℕ} {new old now : List ℕ} {r : Verdict} → Gives (hash_verdict n 32) new old r now → n ≤ 65535 → now ≡ new
unfolding hash_verdict unless
hash_passed {n} g h = gives_passed g (ap (λ (v : Verdict). v.code) g.verdict ∙ rw (le-leb n 65535 h))

-- digest is that of the first e of the bytes s, lent from byte 0 on
pub pad_digest : (session : List ℕ) (j : ℕ) (row : List ℕ) (e : ℕ) (s : List ℕ) {digest : List ℕ} → take e s ≡ session ++ be32 j ++ row → digest ≡ sha256 (take (e - 0) s)
    → digest ≡ pad_bytes session 32 j row
unfolding pad_bytes pad_of
pad_digest session j row e s {digest} hi hd =
    hd ∙ ap (λ (x : ℕ). sha256 (take x s)) (sub-zero e) ∙ ap sha256 hi
    ∙ sym (take_all 32 (sha256 (session ++ be32 j ++ row)) (omega (arith, length-sha256 (session ++ be32 j ++ row))))
