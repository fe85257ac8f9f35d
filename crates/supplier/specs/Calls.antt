-- One call of answer, as the struct that holds what the call is lent: the definitions of `Answer`, read from its fields.
use Rattle.std.specs.Prelude.{List, ℕ, length}
use Rattle.basics.specs.declared.Verdict.{Verdict}
use Rattle.words.specs.Code.{k, code_of}
use Rattle.construction.specs.Transfer.{taking}
use Rattle.columns.specs.Sets.{columns_of}
use Rattle.supplier.specs.declared.lent.Answering.{Answering}
use Rattle.supplier.specs.Answer.{answer_lengths, answer_verdict, masked_strings, answer_message, Answered}
use Rattle.supplier.specs.Masking.{MaskFit}
use Rattle.supplier.specs.Taking.{TakeFit}

-- refusals 6 and 7, for an output of that length
abbrev pub lengths_of : Answering → ℕ → Verdict
lengths_of a message =
    answer_lengths a.seeded a.shape.mode a.shape.rows a.shape.places a.shape.bytes (length a.session.now) (length a.secret.now) (length a.taken.now)
    (length a.strings.now) message

-- all refusals, for an output of that length
abbrev pub verdict_of : Answering → ℕ → Verdict
verdict_of a message =
    answer_verdict a.seeded a.shape.mode a.shape.rows a.shape.places a.shape.bytes a.session.now a.secret.now a.taken.now a.strings.now a.received.now message

-- what taking asks of the lent parts, with a block and rows of these lengths
abbrev pub CanTake : Answering → ℕ → ℕ → Type 0
CanTake a block rows = TakeFit a.seeded a.shape.mode a.shape.rows (length a.session.now) (length a.secret.now) (length a.taken.now) block rows

-- the rows q, from the block of the received message
abbrev pub rows_from : Answering → List ℕ → List ℕ
rows_from a block =
    taking (code_of a.shape.mode) a.shape.rows a.secret.now block (columns_of a.seeded (k (code_of a.shape.mode)) a.shape.rows a.session.now a.taken.now)

-- what masking asks of the lent parts, with rows and strings of these lengths
abbrev pub CanMask : Answering → ℕ → ℕ → Type 0
CanMask a rows strings =
    MaskFit a.shape.mode a.shape.rows a.shape.places a.shape.bytes (length a.session.now) (length a.secret.now) rows strings

-- strings masked under the rows q
abbrev pub masked_of : Answering → List ℕ → List ℕ → List ℕ
masked_of a q strings = masked_strings a.shape.mode a.shape.rows a.shape.places a.shape.bytes a.session.now a.secret.now q strings

-- the answer message
abbrev pub message_of : Answering → List ℕ
message_of a =
    answer_message a.seeded a.shape.mode a.shape.rows a.shape.places a.shape.bytes a.session.now a.secret.now a.taken.now a.strings.now a.received.now

-- what the call gives back, and what its output holds then
abbrev pub AnsweredBy : Answering → List ℕ → Verdict → List ℕ → Type 0
AnsweredBy a old r now =
    Answered a.seeded a.shape.mode a.shape.rows a.shape.places a.shape.bytes a.session.now a.secret.now a.taken.now a.strings.now a.received.now old r now
