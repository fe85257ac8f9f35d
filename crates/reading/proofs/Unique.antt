-- Two results that one contract allows are equal, for each public call of this crate. Assumes nothing.
use mathlib.Core.Path.{◌≡◌, sym, ap, ◌∙◌}
use mathlib.Core.List.{List}
use Prim.Native.Nat.{ℕ}
use denote.Ref.{Bor}
use Rattle.std.specs.Prelude.{Result}
use Rattle.basics.specs.declared.Refusal.{Refusal}
use Rattle.basics.specs.Verdicts.{verdict}
use Rattle.basics.proofs.Verdicts.{answer_unique}
use Rattle.wire.specs.declared.Shape.{Shape}
use Rattle.wire.proofs.Unique.{same}
use Rattle.reading.specs.declared.Advance.{Advance}
use Rattle.reading.specs.declared.Cursor.{Cursor}
use Rattle.reading.specs.declared.Reader.{Reader}
use Rattle.reading.specs.declared.Step as step
use Rattle.reading.specs.declared.Walked.{Walked}
use Rattle.reading.specs.Reading.{start, step_verdict, moved_by, advanced, Stepped, Walks}
use Rattle.reading.specs.Readers.{reader_of, cursor_of, moved_to, ReaderStepped}

pub start_unique : {r₁ r₂ : Cursor} → r₁ ≡ start → r₂ ≡ start → r₁ ≡ r₂
start_unique = same

pub judge_step_unique : (message : List ℕ) (c : Cursor) {r₁ r₂ : Result (Unit {0}) Refusal}
    → verdict r₁ ≡ step_verdict message c → verdict r₂ ≡ step_verdict message c → r₁ ≡ r₂
judge_step_unique message c {r₁} {r₂} p q = answer_unique r₁ r₂ (same p q)

pub step_at_unique : {message : List ℕ} {c : Cursor} {r₁ r₂ : step.Step} → Stepped message c r₁ → Stepped message c r₂ → r₁ ≡ r₂
step_at_unique p q = same p.answers q.answers

pub step_from_unique : (message : List ℕ) (place : ℕ) (shape : Shape) {r₁ r₂ : Advance} → r₁ ≡ advanced message place shape → r₂ ≡ advanced message place shape → r₁ ≡ r₂
step_from_unique message place shape = same

pub walk_unique : (message : List ℕ) {r₁ r₂ : Walked} → Walks message r₁ → Walks message r₂ → r₁ ≡ r₂
walk_unique message {r₁} {r₂} p q =
    rw (answer_unique r₁.judged r₂.judged (same p.judges q.judges), same p.shape q.shape, same p.tag q.tag, same p.len q.len)

-- the reader's making and step
pub new_unique : (message : Bor (List ℕ)) {r₁ r₂ : Reader} → r₁ ≡ reader_of message → r₂ ≡ reader_of message → r₁ ≡ r₂
new_unique message = same

pub next_unique : {before after₁ after₂ : Reader} {t₁ t₂ : step.Step} → ReaderStepped before after₁ t₁ → ReaderStepped before after₂ t₂ → (t₁ ≡ t₂) × (after₁ ≡ after₂)
next_unique {before} {after₁} {after₂} {t₁} {t₂} p q =
    let e : t₁ ≡ t₂ = same p.answers q.answers in
    (e, p.moves ∙ ap (λ (t : step.Step). moved_to before (moved_by (cursor_of before) t)) e ∙ sym q.moves)
