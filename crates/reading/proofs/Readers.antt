-- Laws of the reader that holds its message: what its step shows, that a step behind the end or after a refusal answers the same again, and what the steps over a whole message give. Assumes nothing.
use mathlib.Core.Path.{◌≡◌, refl, sym, ap, ap₂, ◌∙◌}
use mathlib.Core.List.{List}
use Prim.Native.Nat.{ℕ}
use denote.Ref.{Bor}
use Rattle.reading.specs.declared.Reader.{Reader}
use Rattle.basics.specs.declared.Refusal.{Refusal}
use Rattle.reading.specs.declared.Step as step
use Rattle.reading.specs.declared.Step.TheVariants as case
use Rattle.wire.specs.Message.{session_at}
use Rattle.reading.specs.Reading.{cursor, start, shape_in, step_of, moved_by, walk_verdict}
use Rattle.reading.specs.Readers.{reader_of, cursor_of, moved_to, ReaderStepped}
use Rattle.reading.proofs.Reading.{Reads, walk_reads}

-- a step that answers the end or a refusal leaves the reader where it was, so the next one answers the same
pub same_again : {before after later : Reader} {t u : step.Step} → ReaderStepped before after t → moved_by (cursor_of before) t ≡ cursor_of before → ReaderStepped after later u
    → (after ≡ before) × (u ≡ t)
same_again {before} {after} {later} {t} {u} p stays q =
    let here : after ≡ before = p.moves ∙ ap (moved_to before) stays in
    (here, q.answers ∙ ap (λ (r : Reader). step_of r.message.now (cursor_of r)) here ∙ sym p.answers)

pub same_end : {before after later : Reader} {u : step.Step} → ReaderStepped before after case.End → ReaderStepped after later u → (after ≡ before) × (u ≡ case.End)
same_end p q = same_again p refl q

pub same_refusal : {before after later : Reader} {f : Refusal} {u : step.Step} → ReaderStepped before after (case.Refused f) → ReaderStepped after later u
    → (after ≡ before) × (u ≡ case.Refused f)
same_refusal p q = same_again p refl q

-- where the walk of a message passes, four steps of a reader give shape, session, block and end
pub reader_reads : (message : Bor (List ℕ)) {r₁ r₂ r₃ r₄ : Reader} {t₁ t₂ t₃ t₄ : step.Step} → (walk_verdict message.now).code ≡ 0
    → ReaderStepped (reader_of message) r₁ t₁ → ReaderStepped r₁ r₂ t₂ → ReaderStepped r₂ r₃ t₃ → ReaderStepped r₃ r₄ t₄ → Reads message.now t₁ t₂ t₃ t₄
reader_reads message {r₁} {r₂} {r₃} {r₄} {t₁} {t₂} {t₃} {t₄} h p₁ p₂ p₃ p₄ =
    let w = walk_reads message.now h in
    let e₁ : t₁ ≡ case.Shape (shape_in message.now) (cursor session_at (shape_in message.now)) = p₁.answers ∙ w.first in
    let at₁ = p₁.moves ∙ ap (λ (t : step.Step). moved_to (reader_of message) (moved_by start t)) e₁ in
    let e₂ = p₂.answers ∙ ap said at₁ ∙ w.second in
    let at₂ = p₂.moves ∙ ap₂ moved at₁ e₂ in
    let e₃ = p₃.answers ∙ ap said at₂ ∙ w.third in
    let at₃ = p₃.moves ∙ ap₂ moved at₂ e₃ in
    record { first = e₁; second = e₂; third = e₃; last = p₄.answers ∙ ap said at₃ ∙ w.last }
  where
    said : Reader → step.Step
    said r = step_of r.message.now (cursor_of r)

    moved : Reader → step.Step → Reader
    moved r t = moved_to r (moved_by (cursor_of r) t)
