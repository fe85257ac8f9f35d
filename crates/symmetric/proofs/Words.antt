-- Laws of specs/Words.antt, in its order, over either byte order. Assumes nothing.
use Rattle.std.proofs.Common.{◌≡◌, ℕ, zero, suc, ◌+◌, ◌-◌, ◌*◌, ◌/◌, ◌%◌, ◌^◌, ◌<◌, List, [], ◌∷◌, ◌++◌, length, get_or, refl, ap, ◌∙◌, ap₂, arith, length-append, get_or-append-add}
use native.Mathlib.Decide.{dec_lt}
use lib.ListN.{get_or-append}
use Rattle.std.specs.List.{flat_map}
use Rattle.basics.specs.Bytes.{Bytes}
use Rattle.basics.proofs.Bytes.{length-build}
use Rattle.symmetric.specs.Words.{sums, big_endian, little_endian, serial}

-- two lists of four are equal where their elements are, and two of eight
pub four : {a b c d a' b' c' d' : ℕ} → a ≡ a' → b ≡ b' → c ≡ c' → d ≡ d' → a ∷ b ∷ c ∷ d ∷ [] ≡ a' ∷ b' ∷ c' ∷ d' ∷ []
four p q r s = ap₂ ◌∷◌ p (ap₂ ◌∷◌ q (ap₂ ◌∷◌ r (ap₂ ◌∷◌ s refl)))

pub eight : {a b c d e f g h a' b' c' d' e' f' g' h' : ℕ}
    → a ≡ a' → b ≡ b' → c ≡ c' → d ≡ d' → e ≡ e' → f ≡ f' → g ≡ g' → h ≡ h'
    → a ∷ b ∷ c ∷ d ∷ e ∷ f ∷ g ∷ h ∷ [] ≡ a' ∷ b' ∷ c' ∷ d' ∷ e' ∷ f' ∷ g' ∷ h' ∷ []
eight p q r s t u v w = ap₂ ◌++◌ (four p q r s) (four t u v w)

-- the sixteen words of four rows
pub four_rows : {a b c d a' b' c' d' : List ℕ} → a ≡ a' → b ≡ b' → c ≡ c' → d ≡ d' → a ++ b ++ c ++ d ≡ a' ++ b' ++ c' ++ d'
four_rows p q r s = ap₂ ◌++◌ (ap₂ ◌++◌ (ap₂ ◌++◌ p q) r) s

pub length-sums : (n : ℕ) (s v : List ℕ) → length (sums n s v) ≡ n
unfolding sums
length-sums n s v = length-build n _

-- ---- the bytes of a word: an order gives four

pub record Four (order : ℕ → List ℕ) : Type 0 where
  pub long : (x : ℕ) → length (order x) ≡ 4
  pub bytes : (x : ℕ) → Bytes (order x)

bytes_four : (a b c d : ℕ) → a < 256 → b < 256 → c < 256 → d < 256 → Bytes (a ∷ b ∷ c ∷ d ∷ [])
bytes_four a b c d h i j k zero = h
bytes_four a b c d h i j k (suc zero) = i
bytes_four a b c d h i j k (suc (suc zero)) = j
bytes_four a b c d h i j k (suc (suc (suc zero))) = k
bytes_four a b c d h i j k (suc (suc (suc (suc p)))) = omega arith

pub big_endian_four : Four big_endian
unfolding big_endian
big_endian_four = record {
  long = λ x. refl;
  bytes = λ x. bytes_four (x / 2 ^ 24 % 256) (x / 2 ^ 16 % 256) (x / 2 ^ 8 % 256) (x % 256) (omega arith) (omega arith) (omega arith) (omega arith);
}

pub little_endian_four : Four little_endian
unfolding little_endian
little_endian_four = record {
  long = λ x. refl;
  bytes = λ x. bytes_four (x % 256) (x / 2 ^ 8 % 256) (x / 2 ^ 16 % 256) (x / 2 ^ 24 % 256) (omega arith) (omega arith) (omega arith) (omega arith);
}

-- ---- the bytes of a list of words

module _ (order : ℕ → List ℕ) (is-four : Four order) where
  pub length-serial : (ws : List ℕ) → length (serial order ws) ≡ length ws * 4
  unfolding serial
  length-serial [] = refl
  length-serial (x ∷ xs) = length-append (order x) (serial order xs) ∙ omega (arith, is-four.long x, length-serial xs)

  pub serial_bytes : (ws : List ℕ) → Bytes (serial order ws)
  unfolding serial
  serial_bytes [] p = omega arith
  serial_bytes (x ∷ xs) p = side (dec_lt p 4) (serial_bytes xs (p - 4))
    where
      side : Dec (p < 4) → get_or (serial order xs) (p - 4) 0 < 256 → get_or (order x ++ serial order xs) p 0 < 256
      side (yes h) r = rw (get_or-append (order x) (serial order xs) 0 p (omega (arith, is-four.long x))) (is-four.bytes x p)
      side (no h) r =
          let e : p ≡ length (order x) + (p - 4) = omega (arith, is-four.long x) in
          let f = ap (λ (n : ℕ). get_or (order x ++ serial order xs) n 0) e ∙ get_or-append-add (order x) (serial order xs) (p - 4) 0 in
          rw f r

-- the words' bytes, one list after the other
pub serial_map : (order : ℕ → List ℕ) (ws : List ℕ) (bs : List (List ℕ)) → length bs ≡ length ws
    → ((i : ℕ) → i < length ws → get_or bs i [] ≡ order (get_or ws i 0)) → flat_map (λ b. b) bs ≡ serial order ws
unfolding serial
serial_map order [] [] l h = refl
serial_map order [] (b ∷ bs) l h = absurd (omega arith)
serial_map order (x ∷ xs) [] l h = absurd (omega arith)
serial_map order (x ∷ xs) (b ∷ bs) l h = ap₂ ◌++◌ (h 0 (omega arith)) (serial_map order xs bs (omega arith) (λ i k. h (suc i) (omega arith)))
