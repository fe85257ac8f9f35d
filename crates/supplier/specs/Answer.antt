-- Document 01, section 5, Answer: what the two forms give back, from columns and from seeds.
use Rattle.std.specs.Prelude.{Bool, List, ℕ, ◌+◌, ◌*◌, ◌/◌, eqb, length, drop}
use Rattle.basics.specs.declared.Verdict.{Verdict}
use Rattle.basics.specs.Choice.{pick}
use Rattle.basics.specs.Padding.{padded}
use Rattle.basics.specs.Verdicts.{pass, unless, or_else, at_first, Gives}
use Rattle.words.specs.Code.{code_of}
use Rattle.wire.specs.Shapes.{k_of, shape_verdict}
use Rattle.wire.specs.Message.{message_of, block_at}
use Rattle.wire.specs.Received.{received}
use Rattle.construction.specs.Transfer.{taking, masking}
use Rattle.columns.specs.Sets.{columns_of, entry_bytes}
use Rattle.pads.specs.Pads.{pad_bytes}

-- refusals 6 and 7, by the lengths of session, secret, taken set, strings; message
unfoldable pub answer_lengths : Bool → ℕ → ℕ → ℕ → ℕ → ℕ → ℕ → ℕ → ℕ → ℕ → Verdict
answer_lengths seeded mode m n l session secret taken strings message =
    unless (eqb session 12) 6 1
    (unless (eqb secret (k_of mode / 8)) 6 2
    (unless (eqb taken (k_of mode * entry_bytes seeded m)) 6 3
    (unless (eqb strings (m * n * l)) 6 4
    (unless (eqb message (block_at + m * n * l)) 7 1
    pass))))

-- refusal 9, for columns that are handed in
unfoldable pub taken_padding : Bool → ℕ → ℕ → List ℕ → Verdict
taken_padding seeded k m taken = pick seeded pass (at_first k (padded m taken) 9 0)

-- refusals 1 to 7 and 9 in number order, then the received message from its front; `message` is the length of the output
unfoldable pub answer_verdict : Bool → ℕ → ℕ → ℕ → ℕ → List ℕ → List ℕ → List ℕ → List ℕ → List ℕ → ℕ → Verdict
answer_verdict seeded mode m n l session secret taken strings columns message =
    or_else (shape_verdict mode m n l)
    (or_else (answer_lengths seeded mode m n l (length session) (length secret) (length taken) (length strings) message)
    (or_else (taken_padding seeded (k_of mode) m taken)
    (received 3 mode m n l session columns)))

-- the rows q, from the received column message
unfoldable pub taken_rows : Bool → ℕ → ℕ → List ℕ → List ℕ → List ℕ → List ℕ → List ℕ
taken_rows seeded mode m session secret taken columns =
    taking (code_of mode) m secret (drop block_at columns) (columns_of seeded (k_of mode) m session taken)

-- the strings masked under the rows q
unfoldable pub masked_strings : ℕ → ℕ → ℕ → ℕ → List ℕ → List ℕ → List ℕ → List ℕ → List ℕ
masked_strings mode m n l session secret q strings = masking (code_of mode) (pad_bytes session l) m n l secret q strings

-- the answer message
unfoldable pub answer_message : Bool → ℕ → ℕ → ℕ → ℕ → List ℕ → List ℕ → List ℕ → List ℕ → List ℕ → List ℕ
answer_message seeded mode m n l session secret taken strings columns =
    message_of 4 mode m n l session (masked_strings mode m n l session secret (taken_rows seeded mode m session secret taken columns) strings)

-- what the call gives back, and what its output holds then
abbrev pub Answered : Bool → ℕ → ℕ → ℕ → ℕ → List ℕ → List ℕ → List ℕ → List ℕ → List ℕ → List ℕ → Verdict → List ℕ → Type 0
Answered seeded mode m n l session secret taken strings columns old r now =
    Gives (answer_verdict seeded mode m n l session secret taken strings columns (length old))
    (answer_message seeded mode m n l session secret taken strings columns) old r now
