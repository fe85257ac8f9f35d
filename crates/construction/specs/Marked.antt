-- Document 01, section 9: the marked examples P1 to P12, in mode 2, as one list of what the definitions give, one of what the paper says,
-- and one claim.
use Rattle.std.specs.Prelude.{◌≡◌, List, [], ◌∷◌, ◌++◌, map, ℕ, zero, suc, take, replicate}
use Rattle.basics.specs.Padding.{col_bytes}
use Rattle.words.specs.Code.{choices, word_bytes}
use Rattle.construction.specs.Transfer.{hashed, message, kept, taking}

-- P8 to P11: one row, selection 3, all 256 columns zero
unfoldable pub zeros : List ℕ
zeros = replicate 256 0x00

unfoldable pub block : List ℕ
unfolding zeros
block = message choices 1 zeros zeros (3 ∷ [])

-- the rows q where the supplier took columns of zeros under a secret of 32 bytes b, and then the rows hashed at the places rs
unfoldable pub rows_at : ℕ → List ℕ → List (List ℕ)
unfolding zeros block
rows_at b rs = let q = taking choices 1 (replicate 32 b) block zeros in q ∷ map (hashed choices (replicate 32 b) q 0) rs

unfoldable pub found : List (List ℕ)
unfolding zeros block rows_at
found =
    -- P1 to P6, words whole; P7, the first four bytes of a word
    map (word_bytes choices) (0 ∷ 1 ∷ 2 ∷ 3 ∷ 5 ∷ 128 ∷ [])
    ++ take 4 (word_bytes choices 255)
    -- P8 and P9
    ∷ block
    ∷ kept choices 1 zeros (3 ∷ [])
    -- P10, secret all ones; P11, secret all zeros, at each of the n = 8 places
    ∷ rows_at 0xFF (3 ∷ 5 ∷ [])
    ++ rows_at 0x00 (0 ∷ 1 ∷ 2 ∷ 3 ∷ 4 ∷ 5 ∷ 6 ∷ 7 ∷ [])
    -- P12
    ++ (col_bytes 8 ∷ col_bytes 9 ∷ []) ∷ []

-- a string n times over
abbrev pub times : ℕ → List ℕ → List ℕ
times zero s = []
times (suc n) s = s ++ times n s

unfoldable pub wanted : List (List ℕ)
wanted =
    -- P1 to P6
    replicate 32 0x00 ∷ replicate 32 0xAA ∷ replicate 32 0xCC ∷ replicate 32 0x66 ∷ replicate 32 0x5A ∷ (replicate 16 0x00 ++ replicate 16 0xFF)
    -- P7
    ∷ (0x96 ∷ 0x69 ∷ 0x69 ∷ 0x96 ∷ [])
    -- P8 and P9
    ∷ times 32 (0x00 ∷ 0x01 ∷ 0x01 ∷ 0x00 ∷ 0x00 ∷ 0x01 ∷ 0x01 ∷ 0x00 ∷ [])
    ∷ replicate 32 0x66
    -- P10: q(0), then places 3 and 5
    ∷ replicate 32 0x00 ∷ replicate 32 0x66 ∷ replicate 32 0x5A
    -- P11: q(0), then the eight places
    ∷ replicate 32 0x66 ∷ replicate 8 (replicate 32 0x66)
    -- P12
    ++ (1 ∷ 2 ∷ []) ∷ []

abbrev pub Marked : Type 0
Marked = found ≡ wanted
