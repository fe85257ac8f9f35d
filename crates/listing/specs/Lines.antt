-- Document 01, section 8: what the lister prints. Section 7's order holds with refusals 1 to 5 in 11's turn; 11 and 12 never occur.
use Rattle.std.specs.Prelude.{List, [], ◌∷◌, ◌++◌, ℕ, ◌+◌, eqb, get_or}
use Rattle.basics.specs.declared.Verdict.{Verdict}
use Rattle.basics.specs.Choice.{pick}
use Rattle.basics.specs.Verdicts.{or_else}
use Rattle.wire.specs.declared.Shape.{Shape}
use Rattle.wire.specs.Received.{padding_verdict}
use Rattle.reading.specs.Reading.{shape_in, tag_in, length_in, walk_verdict}
use Rattle.listing.specs.Text.{decimal, hexed}

-- ---- words

-- `refused `
abbrev pub refused_word : List ℕ
refused_word = 114 ∷ 101 ∷ 102 ∷ 117 ∷ 115 ∷ 101 ∷ 100 ∷ 32 ∷ []

-- ` at `
abbrev pub at_word : List ℕ
at_word = 32 ∷ 97 ∷ 116 ∷ 32 ∷ []

-- `columns`
abbrev pub columns_word : List ℕ
columns_word = 99 ∷ 111 ∷ 108 ∷ 117 ∷ 109 ∷ 110 ∷ 115 ∷ []

-- `answers`
abbrev pub answers_word : List ℕ
answers_word = 97 ∷ 110 ∷ 115 ∷ 119 ∷ 101 ∷ 114 ∷ 115 ∷ []

-- ` mode `
abbrev pub mode_word : List ℕ
mode_word = 32 ∷ 109 ∷ 111 ∷ 100 ∷ 101 ∷ 32 ∷ []

-- ` rows `
abbrev pub rows_word : List ℕ
rows_word = 32 ∷ 114 ∷ 111 ∷ 119 ∷ 115 ∷ 32 ∷ []

-- ` places `
abbrev pub places_word : List ℕ
places_word = 32 ∷ 112 ∷ 108 ∷ 97 ∷ 99 ∷ 101 ∷ 115 ∷ 32 ∷ []

-- ` bytes `
abbrev pub bytes_word : List ℕ
bytes_word = 32 ∷ 98 ∷ 121 ∷ 116 ∷ 101 ∷ 115 ∷ 32 ∷ []

-- `session `
abbrev pub session_word : List ℕ
session_word = 115 ∷ 101 ∷ 115 ∷ 115 ∷ 105 ∷ 111 ∷ 110 ∷ 32 ∷ []

-- `block `
abbrev pub block_word : List ℕ
block_word = 98 ∷ 108 ∷ 111 ∷ 99 ∷ 107 ∷ 32 ∷ []

-- `line feed`
abbrev pub newline : List ℕ
newline = 10 ∷ []

-- ---- lines

unfoldable pub shape_line : ℕ → Shape → List ℕ
shape_line tag s =
    pick (eqb tag 3) columns_word answers_word
    ++ (mode_word ++ (decimal s.mode
    ++ (rows_word ++ (decimal s.rows
    ++ (places_word ++ (decimal s.places
    ++ (bytes_word ++ (decimal s.bytes ++ newline))))))))

-- byte i of the session in a message
abbrev pub session_byte : List ℕ → ℕ → ℕ
session_byte message i = get_or message (12 + i) 0

unfoldable pub session_line : List ℕ → List ℕ
session_line message = session_word ++ (hexed 12 (session_byte message) ++ newline)

unfoldable pub block_line : ℕ → List ℕ
block_line len = block_word ++ (decimal len ++ newline)

unfoldable pub refused_line : ℕ → ℕ → List ℕ
refused_line code place = refused_word ++ (decimal code ++ (at_word ++ (decimal place ++ newline)))

-- ---- the listing

unfoldable pub list_verdict : List ℕ → Verdict
list_verdict message = or_else (walk_verdict message) (padding_verdict (tag_in message) (shape_in message).mode (shape_in message).rows message)

unfoldable pub listing_of : List ℕ → List ℕ
listing_of message =
    pick (eqb (list_verdict message).code 0)
    (shape_line (tag_in message) (shape_in message) ++ (session_line message ++ block_line (length_in message)))
    (refused_line (list_verdict message).code (list_verdict message).place)
