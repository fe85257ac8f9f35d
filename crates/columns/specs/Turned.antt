-- Eight columns turned into rows word by word: eight bytes of columns as one number, and its turning.
use Rattle.std.specs.Prelude.{List, ℕ, ◌+◌, ◌*◌, ◌/◌, ◌%◌, ◌^◌, get_or}
use Rattle.std.specs.Int.Bits.{bit_xor, bit_and}
use Rattle.basics.specs.Bytes.{pack, bit}

-- byte number `byte` of each of eight columns of c bytes, the first column's lowest
unfoldable pub eight_bytes : ℕ → List ℕ → ℕ → ℕ
eight_bytes c eight byte = pack 64 (λ n. bit (get_or eight (n / 8 * c + byte) 0) (n % 8))

-- a number of 64 bits in which each bit at a place of the mask changes places with the bit `by` places above it
unfoldable pub swapped : ℕ → ℕ → ℕ → ℕ
swapped mask by x = bit_xor (bit_xor x t) (t * 2 ^ by % 2 ^ 64)
  where
    t : ℕ
    t = bit_and (bit_xor x (x / 2 ^ by)) mask

-- bit s of byte e becomes bit e of byte s
unfoldable pub turned : ℕ → ℕ
turned w = pack 64 (λ n. bit w (n % 8 * 8 + n / 8))

-- byte i of the number w
abbrev pub byte_of : ℕ → ℕ → ℕ
byte_of w i = w / 2 ^ (i * 8) % 256

-- a byte, eight times over
unfoldable pub eight_times : ℕ → ℕ
eight_times x = x * 0x0101010101010101

-- two numbers joined: the first xor what `keep` leaves of the other
abbrev pub joined_words : ℕ → ℕ → ℕ → ℕ
joined_words keep first other = bit_xor first (bit_and other keep)
