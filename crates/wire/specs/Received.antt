-- Document 01, section 7: what an operation asks of a received message, from its front. One definition for both tags.
use Rattle.std.specs.Prelude.{Bool, not, List, ℕ, ◌+◌, eqb, length, get_or, drop}
use Rattle.basics.specs.declared.Verdict.{Verdict}
use Rattle.basics.specs.Choice.{pick}
use Rattle.basics.specs.Padding.{padded}
use Rattle.basics.specs.Verdicts.{pass, unless, or_else, at_first}
use Rattle.wire.specs.Shapes.{k_of, block_length}
use Rattle.wire.specs.Message.{session_at, block_header_at, block_at, shape_bytes, header_ok}

-- byte i of the value that begins at byte `at` is not that of the expected value
unfoldable pub differs : List ℕ → ℕ → List ℕ → ℕ → Bool
differs message at value i = not (eqb (get_or message (at + i) 0) (get_or value i 0))

-- refusal 13: the first column of the block that has padding set; masked strings have none
unfoldable pub padding_verdict : ℕ → ℕ → ℕ → List ℕ → Verdict
padding_verdict tag mode m message = pick (eqb tag 3) (at_first (k_of mode) (padded m (drop block_at message)) 13 0) pass

-- from field 3's header on: the header (10), bytes left over (10), padding (13)
unfoldable pub block_verdict : ℕ → ℕ → ℕ → ℕ → List ℕ → Verdict
block_verdict tag len mode m message =
    unless (header_ok message block_header_at tag len) 10 block_header_at
    (unless (eqb (length message) (block_at + len)) 10 (block_at + len)
    (padding_verdict tag mode m message))

-- field 1's header (10) and value (11), field 2's (10, 12), then the block
unfoldable pub received_verdict : ℕ → ℕ → ℕ → ℕ → ℕ → ℕ → List ℕ → List ℕ → Verdict
received_verdict tag len mode m n l session message =
    unless (header_ok message 0 1 6) 10 0
    (or_else (at_first 6 (differs message 3 (shape_bytes mode m n l)) 11 0)
    (unless (header_ok message session_at 2 12) 10 session_at
    (or_else (at_first 12 (differs message (session_at + 3) session) 12 0)
    (block_verdict tag len mode m message))))

-- the same with the length that the tag and the shape give
abbrev pub received : ℕ → ℕ → ℕ → ℕ → ℕ → List ℕ → List ℕ → Verdict
received tag mode m n l session message = received_verdict tag (block_length tag mode m n l) mode m n l session message
