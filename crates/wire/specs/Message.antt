-- Document 01, section 6: a field is a tag of one byte, a length of two bytes big-endian, and the value. A message is three fields.
use Rattle.std.specs.Prelude.{Bool, ◌&&◌, List, [], ◌∷◌, ◌++◌, ℕ, ◌+◌, ◌/◌, ◌%◌, eqb, leb, ltb, length, get_or}
use Rattle.basics.specs.Choice.{pick}
use Rattle.basics.specs.Bytes.{be16, be16_at}

-- where the headers and the block begin
abbrev pub session_at : ℕ
session_at = 9

abbrev pub block_header_at : ℕ
block_header_at = 24

abbrev pub block_at : ℕ
block_at = 27

-- a field's first three bytes
abbrev pub field_header : ℕ → ℕ → List ℕ
field_header tag len = tag ∷ be16 len

-- the shape's six bytes, numbers big-endian
abbrev pub shape_bytes : ℕ → ℕ → ℕ → ℕ → List ℕ
shape_bytes mode m n l = mode ∷ m / 256 ∷ m % 256 ∷ n / 256 ∷ n % 256 ∷ l ∷ []

abbrev pub shape_field : ℕ → ℕ → ℕ → ℕ → List ℕ
shape_field mode m n l = field_header 1 6 ++ shape_bytes mode m n l

abbrev pub session_field : List ℕ → List ℕ
session_field session = field_header 2 12 ++ session

-- the 27 bytes before the block
unfoldable pub header : ℕ → ℕ → ℕ → ℕ → ℕ → ℕ → List ℕ → List ℕ
header tag len mode m n l session = shape_field mode m n l ++ (session_field session ++ field_header tag len)

unfoldable pub message_of : ℕ → ℕ → ℕ → ℕ → ℕ → List ℕ → List ℕ → List ℕ
message_of tag mode m n l session block = header tag (length block) mode m n l session ++ block

-- what the header's writer leaves in a lent part that held `old`: the header, where the session has 12 bytes, the part 27 and the length fits
-- its two bytes; else what it held
unfoldable pub header_written : ℕ → ℕ → ℕ → ℕ → ℕ → ℕ → List ℕ → List ℕ → List ℕ
header_written tag len mode m n l session old =
    pick (eqb (length session) 12 && (eqb (length old) block_at && ltb len 65536)) (header tag len mode m n l session) old

-- section 7: a header at byte `at` is well formed if three bytes remain, tag and length are the expected ones, and so many value bytes remain
unfoldable pub header_ok : List ℕ → ℕ → ℕ → ℕ → Bool
header_ok message at tag len = leb (at + 3 + len) (length message) && (eqb (get_or message at 0) tag && eqb (be16_at message (at + 1)) len)
