-- Words of 32 bits, as both standards use them: their sums (FIPS 180-4, section 2.2.2; RFC 8439, section 2.1) and their bytes.
use Rattle.std.specs.Prelude.{ℕ, ◌+◌, ◌/◌, ◌%◌, ◌^◌, List, [], ◌∷◌, ◌++◌, slice_index}
use Rattle.basics.specs.Bytes.{build}

abbrev pub add : ℕ → ℕ → ℕ
add x y = (x + y) % 2 ^ 32

-- two lists of n words, added word by word
unfoldable pub sums : ℕ → List ℕ → List ℕ → List ℕ
sums n s v = build n (λ i. add (slice_index s i) (slice_index v i))

-- the four bytes of a word, the most significant first, and the least significant first
unfoldable pub big_endian : ℕ → List ℕ
big_endian x = x / 2 ^ 24 % 256 ∷ x / 2 ^ 16 % 256 ∷ x / 2 ^ 8 % 256 ∷ x % 256 ∷ []

unfoldable pub little_endian : ℕ → List ℕ
little_endian x = x % 256 ∷ x / 2 ^ 8 % 256 ∷ x / 2 ^ 16 % 256 ∷ x / 2 ^ 24 % 256 ∷ []

-- the bytes of a list of words, in one of these orders
unfoldable pub serial : (ℕ → List ℕ) → List ℕ → List ℕ
serial order [] = []
serial order (x ∷ xs) = order x ++ serial order xs
