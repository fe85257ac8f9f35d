-- Document 01, section 5, Prepare: what the two forms give back, from columns and from seeds.
use Rattle.std.specs.Prelude.{Bool, List, ℕ, ◌+◌, ◌*◌, ◌/◌, eqb, length}
use Rattle.basics.specs.declared.Verdict.{Verdict}
use Rattle.basics.specs.Choice.{pick}
use Rattle.basics.specs.Bytes.{◌⊕◌}
use Rattle.basics.specs.Padding.{col_bytes, padded}
use Rattle.basics.specs.Verdicts.{pass, unless, or_else, at_first, Gives}
use Rattle.words.specs.Code.{code_of}
use Rattle.wire.specs.Shapes.{k_of, shape_verdict}
use Rattle.wire.specs.Message.{message_of, block_at}
use Rattle.construction.specs.Transfer.{chosen, message, kept}
use Rattle.columns.specs.Sets.{columns_of, entry_bytes}
use Rattle.buyer.specs.Selections.{selections_verdict}

-- refusals 6 and 7, by the lengths of session, first set, second set, selections; message, kept rows
unfoldable pub prepare_lengths : Bool → ℕ → ℕ → ℕ → ℕ → ℕ → ℕ → ℕ → ℕ → Verdict
prepare_lengths seeded mode m session first second selections message kept =
    unless (eqb session 12) 6 1
    (unless (eqb first (k_of mode * entry_bytes seeded m)) 6 2
    (unless (eqb second (k_of mode * entry_bytes seeded m)) 6 3
    (unless (eqb selections m) 6 4
    (unless (eqb message (block_at + k_of mode * col_bytes m)) 7 1
    (unless (eqb kept (m * (k_of mode / 8))) 7 2
    pass)))))

-- refusal 9, for columns that are handed in: column i of the first set at i, of the second at k + i
unfoldable pub sets_padding : Bool → ℕ → ℕ → List ℕ → List ℕ → Verdict
sets_padding seeded k m first second = pick seeded pass (or_else (at_first k (padded m first) 9 0) (at_first k (padded m second) 9 k))

-- refusals 1 to 9 in number order; `message` and `kept` are the lengths of the outputs
unfoldable pub prepare_verdict : Bool → ℕ → ℕ → ℕ → ℕ → List ℕ → List ℕ → List ℕ → List ℕ → ℕ → ℕ → Verdict
prepare_verdict seeded mode m n l session first second selections message kept =
    or_else (shape_verdict mode m n l)
    (or_else (prepare_lengths seeded mode m (length session) (length first) (length second) (length selections) message kept)
    (or_else (selections_verdict m n selections)
    (sets_padding seeded (k_of mode) m first second)))

-- the message's block, the column message, and the kept rows
unfoldable pub column_block : Bool → ℕ → ℕ → List ℕ → List ℕ → List ℕ → List ℕ → List ℕ
column_block seeded mode m session first second selections =
    message (code_of mode) m (columns_of seeded (k_of mode) m session first) (columns_of seeded (k_of mode) m session second) selections

unfoldable pub column_message : Bool → ℕ → ℕ → ℕ → ℕ → List ℕ → List ℕ → List ℕ → List ℕ → List ℕ
column_message seeded mode m n l session first second selections =
    message_of 3 mode m n l session (column_block seeded mode m session first second selections)

-- the columns whose rows are kept: the second set's xor D
unfoldable pub kept_columns : Bool → ℕ → ℕ → List ℕ → List ℕ → List ℕ → List ℕ
kept_columns seeded mode m session second selections = columns_of seeded (k_of mode) m session second ⊕ chosen (code_of mode) m selections

unfoldable pub kept_rows : Bool → ℕ → ℕ → List ℕ → List ℕ → List ℕ → List ℕ
kept_rows seeded mode m session second selections = kept (code_of mode) m (columns_of seeded (k_of mode) m session second) selections

-- what the call gives back, and what its two outputs hold then
pub record Prepared (seeded : Bool) (mode m n l : ℕ) (session first second selections message kept : List ℕ) (r : Verdict) (message' kept' : List ℕ) : Type 0 where
  pub sent : Gives (prepare_verdict seeded mode m n l session first second selections (length message) (length kept))
      (column_message seeded mode m n l session first second selections) message r message'
  pub rows : Gives (prepare_verdict seeded mode m n l session first second selections (length message) (length kept))
      (kept_rows seeded mode m session second selections) kept r kept'
