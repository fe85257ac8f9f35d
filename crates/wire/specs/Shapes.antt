-- Document 01, section 2: what a shape allows, k, and the length of a message's block; section 7: refusals 1 to 5, in number order, at place 0.
use Rattle.std.specs.Prelude.{Bool, ◌&&◌, ◌≡◌, ℕ, ◌*◌, ◌/◌, ◌≤◌, eqb, leb}
use Rattle.basics.specs.declared.Verdict.{Verdict}
use Rattle.basics.specs.Choice.{pick}
use Rattle.basics.specs.Padding.{col_bytes}
use Rattle.basics.specs.Verdicts.{pass, unless}
use Rattle.wire.specs.declared.Shape.{Shape}

-- k: the columns of a batch, and the places of a code word
unfoldable pub k_of : ℕ → ℕ
k_of mode = pick (eqb mode 2) 256 128

-- the most places n that a mode allows
abbrev pub most_places : ℕ → ℕ
most_places mode = pick (eqb mode 2) 256 2

-- x is at least low and at most high
abbrev pub within : ℕ → ℕ → ℕ → Bool
within low x high = leb low x && leb x high

-- the bounds of section 2
abbrev pub most_rows : ℕ
most_rows = 1024

abbrev pub most_bytes : ℕ
most_bytes = 32

abbrev pub most_volume : ℕ
most_volume = 32768

unfoldable pub shape_verdict : ℕ → ℕ → ℕ → ℕ → Verdict
shape_verdict mode m n l =
    unless (within 1 mode 2) 1 0
    (unless (within 1 m most_rows) 2 0
    (unless (within 2 n (most_places mode)) 3 0
    (unless (within 1 l most_bytes) 4 0
    (unless (leb (m * n * l) most_volume) 5 0
    pass))))

-- the same of the struct
abbrev pub verdict_of : Shape → Verdict
verdict_of s = shape_verdict s.mode s.rows s.places s.bytes

-- section 6: the length of the block by its tag, k·c for columns (tag 3), m·n·l for masked strings (tag 4, and any other)
unfoldable pub block_length : ℕ → ℕ → ℕ → ℕ → ℕ → ℕ
block_length tag mode m n l = pick (eqb tag 3) (k_of mode * col_bytes m) (m * n * l)

-- the same of the struct
abbrev pub length_of : ℕ → Shape → ℕ
length_of tag s = block_length tag s.mode s.rows s.places s.bytes

-- what the code's k says: it is k, with the bounds that callers need
pub record Width (mode k : ℕ) : Type 0 where
  pub is : k ≡ k_of mode
  pub low : 128 ≤ k
  pub high : k ≤ 256
  pub whole : k / 8 * 8 ≡ k
