-- Document 01, section 5, Open: what the call gives back.
use Rattle.std.specs.Prelude.{◌≡◌, List, ℕ, ◌*◌, ◌/◌, ◌%◌, ◌≤◌, ◌<◌, eqb, length, get_or, drop}
use Rattle.std.specs.Int.Bits.{bit_xor}
use Rattle.basics.specs.declared.Verdict.{Verdict}
use Rattle.basics.specs.Bytes.{build, line}
use Rattle.basics.specs.Verdicts.{pass, unless, or_else, Gives}
use Rattle.words.specs.Code.{code_of}
use Rattle.wire.specs.Shapes.{k_of, shape_verdict}
use Rattle.wire.specs.Message.{block_at}
use Rattle.wire.specs.Received.{received}
use Rattle.construction.specs.Transfer.{opened}
use Rattle.pads.specs.Pads.{pad_bytes}
use Rattle.buyer.specs.Selections.{selections_verdict}

-- refusals 6 and 7, by the lengths of session, selections, kept rows; opened strings
unfoldable pub open_lengths : ℕ → ℕ → ℕ → ℕ → ℕ → ℕ → ℕ → Verdict
open_lengths mode m l session selections kept opened =
    unless (eqb session 12) 6 1
    (unless (eqb selections m) 6 2
    (unless (eqb kept (m * (k_of mode / 8))) 6 3
    (unless (eqb opened (m * l)) 7 1
    pass)))

-- refusals 1 to 8 in number order, then the message from its front; `opened` is the length of the output
unfoldable pub open_verdict : ℕ → ℕ → ℕ → ℕ → List ℕ → List ℕ → List ℕ → List ℕ → ℕ → Verdict
open_verdict mode m n l session selections kept message opened =
    or_else (shape_verdict mode m n l)
    (or_else (open_lengths mode m l (length session) (length selections) (length kept) opened)
    (or_else (selections_verdict m n selections)
    (received 4 mode m n l session message)))

-- the opened rows, from the masked strings
unfoldable pub opened_rows : ℕ → ℕ → ℕ → ℕ → List ℕ → List ℕ → List ℕ → List ℕ → List ℕ
opened_rows mode m n l session selections kept strings = opened (code_of mode) (pad_bytes session l) m n l selections kept strings

-- the same from the received message
unfoldable pub opened_strings : ℕ → ℕ → ℕ → ℕ → List ℕ → List ℕ → List ℕ → List ℕ → List ℕ
opened_strings mode m n l session selections kept message = opened_rows mode m n l session selections kept (drop block_at message)

-- strings that were selected, opened: row j's string xor the pad of (j, kept row j)
unfoldable pub opened_selected : ℕ → ℕ → ℕ → List ℕ → List ℕ → List ℕ → List ℕ
opened_selected mode m l session kept strings =
    build (m * l) (λ p. bit_xor (get_or strings p 0) (get_or (pad_bytes session l (p / l) (line (code_of mode).width kept (p / l))) (p % l) 0))

-- the lengths that it asks for: session, kept rows, strings
pub record SelectedFits (mode m l session kept strings : ℕ) : Type 0 where
  pub rows_few : m ≤ 1024
  pub bytes_few : l ≤ 32
  pub session_long : session ≡ 12
  pub kept_long : kept ≡ m * (code_of mode).width
  pub strings_long : strings ≡ m * l

-- what opening the rows asks, once nothing is refused
pub record OpenFits (mode m n l : ℕ) (session selections kept strings opened : List ℕ) : Type 0 where
  pub rows_few : m ≤ 1024
  pub places_some : 1 ≤ n
  pub places_few : n ≤ 256
  pub bytes_some : 1 ≤ l
  pub bytes_few : l ≤ 32
  pub session_long : length session ≡ 12
  pub selections_long : length selections ≡ m
  pub kept_long : length kept ≡ m * (code_of mode).width
  pub strings_long : length strings ≡ m * n * l
  pub opened_long : length opened ≡ m * l
  pub small : (j : ℕ) → j < m → get_or selections j 0 < n

-- what the call gives back, and what its output holds then
abbrev pub Opened : ℕ → ℕ → ℕ → ℕ → List ℕ → List ℕ → List ℕ → List ℕ → List ℕ → Verdict → List ℕ → Type 0
Opened mode m n l session selections kept message old r now =
    Gives (open_verdict mode m n l session selections kept message (length old)) (opened_strings mode m n l session selections kept message) old r now
