-- Document 01, sections 4 and 5, on byte strings: expansion and pads, then prepare, answer and open. `Paper` is the source's own form of the same.
-- A set of columns is one byte string, k columns of c bytes, column i at byte i * c. A set of rows is m lines of k / 8 bytes, row j at byte j * k / 8.
-- The strings and the masked strings stand at byte (j * n + r) * l for row j and place r. A list of selections has a number for each row.
use Rattle.std.specs.Prelude.{◌≡◌, List, ◌++◌, ℕ, ◌+◌, ◌*◌, ◌/◌, ◌%◌, ◌<◌, length, get_or, take, ltb}
use Rattle.std.specs.Int.Bits.{bit_xor}
use Rattle.basics.specs.Choice.{pick, by_bit}
use Rattle.basics.specs.Bytes.{build, pack, bit, bit_at, line, bit_in, lines, ◌⊕◌, ◌⊙◌, Bytes, be32}
use Rattle.basics.specs.Padding.{col_bytes, Clear}
use Rattle.words.specs.Code.{Code, k, word_bytes}

-- ---- what a call is lent

-- a set of columns of m rows that a call accepts: k columns of c bytes, with no bit set from m upward
pub record Columns (C : Code) (m : ℕ) (s : List ℕ) : Type 0 where
  pub long : length s ≡ k C * col_bytes m
  pub byte : Bytes s
  pub clear : (i : ℕ) → i < k C → Clear m s i

-- a list of m selections among n places
pub record Selections (m n : ℕ) (sel : List ℕ) : Type 0 where
  pub long : length sel ≡ m
  pub small : (j : ℕ) → j < m → get_or sel j 0 < n

-- ---- section 4, the two oracles, over any block cipher and any hash

-- the first c bytes of s with the padding cleared: bit j is that of s below m, and 0 from m upward
unfoldable pub cleared : ℕ → List ℕ → List ℕ
cleared m s = build (col_bytes m) (λ p. pack 8 (λ e. pick (ltb (p * 8 + e) m) (bit (get_or s p 0) e) 0))

-- the column of a seed: the keystream's first c bytes from block 0, padding then cleared. c is at most 128, and two blocks of 64 bytes reach that far
unfoldable pub column_of : (List ℕ → List ℕ → ℕ → List ℕ) → List ℕ → ℕ → List ℕ → List ℕ
column_of block session m seed = cleared m (block seed session 0 ++ block seed session 1)

-- the pad of (j, row): the first l bytes of the hash over session, j as four bytes big-endian, and the row
unfoldable pub pad_of : (List ℕ → List ℕ) → List ℕ → ℕ → ℕ → List ℕ → List ℕ
pad_of hash session l j row = take l (hash (session ++ be32 j ++ row))

-- ---- what the supplier takes, and what it hashes

module _ (C : Code) where
  -- k lines of w bytes: line i is a's where the secret s has 0 at i, and b's where it has 1. It is how the supplier came by what it took:
  -- seeds where w is 32, columns where w is c
  unfoldable pub select : ℕ → List ℕ → List ℕ → List ℕ → List ℕ
  select w s a b = build (k C * w) (λ p. by_bit (bit_at s (p / w)) (get_or a p 0) (get_or b p 0))

  -- the row that is hashed for row j and place r, from the secret s and the rows q: q(j) xor (word r AND s)
  unfoldable pub hashed : List ℕ → List ℕ → ℕ → ℕ → List ℕ
  hashed s q j r = line C.width q j ⊕ (word_bytes C r ⊙ s)

module _ (C : Code) (m : ℕ) where
  -- the columns of k seeds of 32 bytes, where col gives the column of one
  unfoldable pub expand : (List ℕ → List ℕ) → List ℕ → List ℕ
  expand col seeds = build (k C * col_bytes m) (λ p. get_or (col (line 32 seeds (p / col_bytes m))) (p % col_bytes m) 0)

  -- D: column i has at row j place i of word r(j), and 0 from m upward
  unfoldable pub chosen : List ℕ → List ℕ
  chosen sel = lines (k C) (col_bytes m) (λ i j. pick (ltb j m) (C.word (get_or sel j 0) i) 0)

  -- a set of columns turned into rows: row j has at place i bit j of column i
  unfoldable pub rows : List ℕ → List ℕ
  rows cols = lines m C.width (λ j i. bit_in (col_bytes m) cols i j)

  -- ---- section 5, prepare, from the buyer's columns u and v: the message's block, U xor V xor D, and the kept rows, those of V xor D

  unfoldable pub message : List ℕ → List ℕ → List ℕ → List ℕ
  message u v sel = u ⊕ v ⊕ chosen sel

  unfoldable pub kept : List ℕ → List ℕ → List ℕ
  kept v sel = rows (v ⊕ chosen sel)

  -- ---- section 5, answer, from the secret s, the message's block w and the columns t that were taken

  -- the rows q: the supplier's column is the message's xor the taken one where s has 0, and the taken one where it has 1
  unfoldable pub taking : List ℕ → List ℕ → List ℕ → List ℕ
  taking s w t = rows (select C (col_bytes m) s (w ⊕ t) t)

-- pad j row gives the bytes of which the first l are the pad of (j, row)
module _ (C : Code) (pad : ℕ → List ℕ → List ℕ) (m n l : ℕ) where
  -- the strings xs masked: at row j and place r by the pad of (j, the row hashed there)
  unfoldable pub masking : List ℕ → List ℕ → List ℕ → List ℕ
  masking s q xs =
      build (m * n * l)
      (λ p. bit_xor (get_or xs p 0) (get_or (pad (p / l / n) (hashed C s q (p / l / n) (p / l % n))) (p % l) 0))

  unfoldable pub answer : List ℕ → List ℕ → List ℕ → List ℕ → List ℕ
  answer s w t xs = masking s (taking C m s w t) xs

  -- ---- section 5, open, from the selections, the kept rows t and the masked strings ys: row j is the one at place r(j) xor the pad of (j, kept row j)
  unfoldable pub opened : List ℕ → List ℕ → List ℕ → List ℕ
  opened sel t ys =
      build (m * l)
      (λ p. bit_xor (get_or ys ((p / l * n + get_or sel (p / l) 0) * l + p % l) 0) (get_or (pad (p / l) (line C.width t (p / l))) (p % l) 0))

-- the strings at the selected places: what opening is to give
unfoldable pub selected : ℕ → ℕ → ℕ → List ℕ → List ℕ → List ℕ
selected m n l sel xs = build (m * l) (λ p. get_or xs ((p / l * n + get_or sel (p / l) 0) * l + p % l) 0)
