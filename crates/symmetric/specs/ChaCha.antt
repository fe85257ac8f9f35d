-- The ChaCha20 block function as RFC 8439 has it, over words below 2^32 and lists of bytes. Section numbers are that document's.
use Rattle.std.specs.Prelude.{ℕ, zero, suc, ◌+◌, ◌-◌, ◌*◌, ◌/◌, ◌%◌, ◌^◌, List, [], ◌∷◌, bit_or, bit_xor, slice_index, slice_set}
use Rattle.symmetric.specs.Words.{add, sums, little_endian, serial}

-- section 2.1: rotation by n bits towards the high end
unfoldable pub rotl : ℕ → ℕ → ℕ
rotl n x = bit_or ((x * 2 ^ n) % 2 ^ 32) (x / 2 ^ (32 - n))

-- the four lines of the quarter round on a, b, c, d
unfoldable pub quarter : ℕ → ℕ → ℕ → ℕ → List ℕ
quarter a b c d =
    let a₁ = add a b in let d₁ = rotl 16 (bit_xor d a₁) in
    let c₁ = add c d₁ in let b₁ = rotl 12 (bit_xor b c₁) in
    let a₂ = add a₁ b₁ in let d₂ = rotl 8 (bit_xor d₁ a₂) in
    let c₂ = add c₁ d₂ in let b₂ = rotl 7 (bit_xor b₁ c₂) in
    a₂ ∷ b₂ ∷ c₂ ∷ d₂ ∷ []

-- section 2.2: the quarter round on the words x, y, z, w of the state
abbrev pub put : ℕ → ℕ → ℕ → ℕ → List ℕ → List ℕ → List ℕ
put x y z w s q = slice_set (slice_set (slice_set (slice_set s x (slice_index q 0)) y (slice_index q 1)) z (slice_index q 2)) w (slice_index q 3)

abbrev pub quarter_round : ℕ → ℕ → ℕ → ℕ → List ℕ → List ℕ
quarter_round x y z w s = put x y z w s (quarter (slice_index s x) (slice_index s y) (slice_index s z) (slice_index s w))

-- section 2.3: four quarter rounds on the columns of the state, and four on its diagonals
unfoldable pub column_round : List ℕ → List ℕ
column_round s = quarter_round 3 7 11 15 (quarter_round 2 6 10 14 (quarter_round 1 5 9 13 (quarter_round 0 4 8 12 s)))

unfoldable pub diagonal_round : List ℕ → List ℕ
diagonal_round s = quarter_round 3 4 9 14 (quarter_round 2 7 8 13 (quarter_round 1 6 11 12 (quarter_round 0 5 10 15 s)))

unfoldable pub inner_block : List ℕ → List ℕ
inner_block s = diagonal_round (column_round s)

-- the state after n double rounds, of which there are ten
unfoldable pub double_rounds : List ℕ → ℕ → List ℕ
double_rounds s zero = s
double_rounds s (suc n) = inner_block (double_rounds s n)

-- a word from four bytes, the least significant first
abbrev pub le32_at : List ℕ → ℕ → ℕ
le32_at s i = slice_index s i + slice_index s (i + 1) * 256 + slice_index s (i + 2) * 65536 + slice_index s (i + 3) * 16777216

-- the sixteen words at the start: constants, key, block counter, nonce
unfoldable pub start : List ℕ → List ℕ → ℕ → List ℕ
start key nonce counter =
    0x6170_7865 ∷ 0x3320_646e ∷ 0x7962_2d32 ∷ 0x6b20_6574
    ∷ le32_at key 0 ∷ le32_at key 4 ∷ le32_at key 8 ∷ le32_at key 12
    ∷ le32_at key 16 ∷ le32_at key 20 ∷ le32_at key 24 ∷ le32_at key 28
    ∷ counter ∷ le32_at nonce 0 ∷ le32_at nonce 4 ∷ le32_at nonce 8 ∷ []

-- the words at the start are added to the state at the end, and the sums written out
unfoldable pub chacha20 : List ℕ → List ℕ → ℕ → List ℕ
chacha20 key nonce counter = serial little_endian (sums 16 (double_rounds (start key nonce counter) 10) (start key nonce counter))
