-- D, eight rows at a time: document 01, section 5, 'column i of D has at row j place i of word r(j)'. A row that there is not selects word 0, which is
-- zero at every place.
use Rattle.std.specs.Prelude.{◌≡◌, List, ℕ, ◌+◌, ◌/◌, ◌%◌, eqb, length, get_or, take}
use Rattle.std.specs.Int.Bits.{bit_xor}
use Rattle.basics.specs.Choice.{pick}
use Rattle.basics.specs.Bytes.{build, pack}
use Rattle.words.specs.Code.{Code}

-- the byte that the eight rows from row j give to column i
unfoldable pub place_byte : Code → List ℕ → ℕ → ℕ → ℕ
place_byte C sel j i = pack 8 (λ e. C.word (get_or sel (j + e) 0) i)

-- a table of 256 bytes that begins with what those rows give to the first n columns
pub record Begins (C : Code) (sel : List ℕ) (j n : ℕ) (s : List ℕ) : Type 0 where
  pub long : length s ≡ 256
  pub front : take n s ≡ build n (place_byte C sel j)

-- columns of c bytes after f i was added to byte b of column i; the other bytes stay
unfoldable pub added_bytes : ℕ → ℕ → (ℕ → ℕ) → List ℕ → List ℕ
added_bytes c b f old = build (length old) (λ p. pick (eqb (p % c) b) (bit_xor (get_or old p 0) (f (p / c))) (get_or old p 0))
