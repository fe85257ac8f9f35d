-- A set of columns turned into rows, eight columns at a time: document 01, section 5, 'row j has at place i bit j of column i'.
use Rattle.std.specs.Prelude.{◌≡◌, Bool, ◌&&◌, List, ℕ, ◌*◌, ◌/◌, ◌%◌, ◌+◌, ◌<◌, ◌≤◌, eqb, ltb, length, get_or}
use Rattle.std.specs.Int.Bits.{bit_xor, bit_and}
use Rattle.basics.specs.Choice.{pick}
use Rattle.basics.specs.Bytes.{build, pack, bit_in}
use Rattle.basics.specs.Padding.{col_bytes}
use Rattle.words.specs.Code.{code_of}
use Rattle.columns.specs.Turned.{byte_of}

-- the byte that eight columns of m rows give to row j
abbrev pub gathered : ℕ → List ℕ → ℕ → ℕ
gathered c eight j = pack 8 (λ e. bit_in c eight e j)

-- rows of `width` bytes after row i took f i for its byte g; the other bytes stay
unfoldable pub given : ℕ → ℕ → (ℕ → ℕ) → List ℕ → List ℕ
given width g f old = build (length old) (λ p. pick (eqb (p % width) g) (f (p / width)) (get_or old p 0))

-- what a call of `word` at b may answer, where b is below c: a number whose byte i is f (8 b + i)
abbrev pub GivesWords : (ℕ → ℕ → Type 0) → ℕ → (ℕ → ℕ) → Type 0
GivesWords post c f = (b w i : ℕ) → b < c → post b w → i < 8 → byte_of w i ≡ f (b * 8 + i)

-- the byte that eight columns and eight others give to row j together: the first's xor what `keep` leaves of the others'. It serves taking (section 5), where
-- the others are the message's columns and `keep` is the complement of the secret's byte.
abbrev pub joined : ℕ → ℕ → List ℕ → List ℕ → ℕ → ℕ
joined c keep eight others j = bit_xor (gathered c eight j) (bit_and (gathered c others j) keep)

-- by their lengths: eight columns of m rows, eight others, and m rows of more than g bytes
abbrev pub eight_fit : ℕ → ℕ → ℕ → ℕ → ℕ → ℕ → Bool
eight_fit m width g eight others old = eqb eight (8 * col_bytes m) && (eqb others (8 * col_bytes m) && (eqb old (m * width) && ltb g width))

-- rows after eight columns and eight others gave each its byte g, and as they were where the lengths do not fit
unfoldable pub joined_over : ℕ → ℕ → ℕ → ℕ → List ℕ → List ℕ → List ℕ → List ℕ
joined_over m width g keep eight others old =
    pick (eight_fit m width g (length eight) (length others) (length old)) (given width g (joined (col_bytes m) keep eight others) old) old

-- by their lengths: a whole set of columns for words of `width` bytes, and the rows that it fills
abbrev pub rows_fit : ℕ → ℕ → ℕ → ℕ → Bool
rows_fit width m columns old = eqb columns (width * 8 * col_bytes m) && eqb old (m * width)

-- the bytes of a row in a mode
pub record RowBytes (mode r : ℕ) : Type 0 where
  pub is : r ≡ (code_of mode).width
  pub low : 16 ≤ r
  pub high : r ≤ 32
