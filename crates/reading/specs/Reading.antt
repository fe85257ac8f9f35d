-- Document 01, section 6: a reader walks the fields. The place tells the field: headers begin at bytes 0, 9 and 24, and any other place is
-- behind the third field. Refusals 1 to 5 are tried on field 1's value, as section 8 says.
use Rattle.std.specs.Prelude.{Bool, ◌&&◌, ◌||◌, ◌≡◌, List, ℕ, zero, suc, ◌+◌, eqb, leb, length, get_or}
use Rattle.basics.specs.declared.Verdict.{Verdict}
use Rattle.basics.specs.Choice.{pick}
use Rattle.basics.specs.Bytes.{be16_at}
use Rattle.basics.specs.Verdicts.{number, verdict, refusal_of, at, pass, unless, or_else}
use Rattle.wire.specs.declared.Shape.{Shape}
use Rattle.wire.specs.Shapes.{verdict_of, length_of}
use Rattle.wire.specs.Message.{session_at, block_header_at, block_at, header_ok}
use Rattle.reading.specs.declared.Advance.{Advance}
use Rattle.reading.specs.declared.Cursor.{Cursor}
use Rattle.reading.specs.declared.Walked.{Walked}
use Rattle.reading.specs.declared.Step as step
use Rattle.reading.specs.declared.Step.TheVariants as case

abbrev pub cursor : ℕ → Shape → Cursor
cursor place shape = record { place = place; shape = shape }

-- before the first field no shape is found
abbrev pub no_shape : Shape
no_shape = record { mode = 0; rows = 0; places = 0; bytes = 0 }

abbrev pub start : Cursor
start = cursor 0 no_shape

-- the shape in field 1's value
unfoldable pub shape_in : List ℕ → Shape
shape_in message = record { mode = get_or message 3 0; rows = be16_at message 4; places = be16_at message 6; bytes = get_or message 8 0 }

-- the tag at byte 24
abbrev pub tag_in : List ℕ → ℕ
tag_in message = get_or message block_header_at 0

-- field 3's header has tag 3 or 4 with that tag's length for the shape
unfoldable pub block_ok : List ℕ → Shape → Bool
block_ok message s = (eqb (tag_in message) 3 || eqb (tag_in message) 4) && header_ok message block_header_at (tag_in message) (length_of (tag_in message) s)

-- ---- one step

-- document 01's number and place: 0 at 0 for a field or the end
unfoldable pub step_verdict : List ℕ → Cursor → Verdict
step_verdict message c =
    pick (eqb c.place 0) (unless (header_ok message 0 1 6) 10 0 (verdict_of (shape_in message)))
    (pick (eqb c.place session_at) (unless (header_ok message session_at 2 12) 10 session_at pass)
    (pick (eqb c.place block_header_at) (unless (block_ok message c.shape) 10 block_header_at pass)
    (unless (leb (length message) c.place) 10 c.place pass)))

-- the field at the cursor, with the cursor behind it: the shape; place and length of the session; tag, place and length of the block; the end
unfoldable pub field_at : List ℕ → Cursor → step.Step
field_at message c =
    pick (eqb c.place 0) (case.Shape (shape_in message) (cursor session_at (shape_in message)))
    (pick (eqb c.place session_at) (case.Session (session_at + 3) 12 (cursor block_header_at c.shape))
    (pick (eqb c.place block_header_at)
    (case.Block (tag_in message) block_at (length_of (tag_in message) c.shape) (cursor (block_at + length_of (tag_in message) c.shape) c.shape))
    case.End))

-- the refusal where the verdict is one, else the field
unfoldable pub answer : Verdict → step.Step → step.Step
answer v field = pick (eqb v.code 0) field (case.Refused (refusal_of v))

unfoldable pub step_of : List ℕ → Cursor → step.Step
step_of message c = answer (step_verdict message c) (field_at message c)

-- document 01's number and place of every case
abbrev pub number_of : step.Step → Verdict
number_of (case.Shape s c) = pass
number_of (case.Session place len c) = pass
number_of (case.Block tag place len c) = pass
number_of case.End = pass
number_of (case.Refused r) = at (number r.reason) r.place

-- where the next step begins: behind the field; at the end and on a refusal the cursor stays
abbrev pub moved_by : Cursor → step.Step → Cursor
moved_by c (case.Shape s next) = next
moved_by c (case.Session place len next) = next
moved_by c (case.Block tag place len next) = next
moved_by c case.End = c
moved_by c (case.Refused r) = c

-- the cursor after k steps
unfoldable pub after : ℕ → List ℕ → Cursor → Cursor
after zero message c = c
after (suc k) message c = moved_by (after k message c) (step_of message (after k message c))

-- a step with where the next one begins
unfoldable pub advanced : List ℕ → ℕ → Shape → Advance
advanced message place shape =
    let c = cursor place shape in
    let t = step_of message c in
    record { step = t; place = (moved_by c t).place; shape = (moved_by c t).shape }

-- what a step promises: the answer, and by document 01's number and place
pub record Stepped (message : List ℕ) (c : Cursor) (r : step.Step) : Type 0 where
  pub answers : r ≡ step_of message c
  pub number : number_of r ≡ step_verdict message c

-- ---- the walk of a whole message: the four steps in turn, the first refusal decides

abbrev pub length_in : List ℕ → ℕ
length_in message = length_of (tag_in message) (shape_in message)

unfoldable pub steps_verdict : List ℕ → Shape → ℕ → Verdict
steps_verdict message s len =
    or_else (step_verdict message start)
    (or_else (step_verdict message (cursor session_at s))
    (or_else (step_verdict message (cursor block_header_at s))
    (step_verdict message (cursor (block_at + len) s))))

abbrev pub walk_verdict : List ℕ → Verdict
walk_verdict message = steps_verdict message (shape_in message) (length_in message)

-- what the walk finds: the verdict, and what stands in the fields' places, also on a refusal
pub record Walks (message : List ℕ) (w : Walked) : Type 0 where
  pub judges : verdict w.judged ≡ walk_verdict message
  pub shape : w.shape ≡ shape_in message
  pub tag : w.tag ≡ tag_in message
  pub len : w.len ≡ length_in message
