-- Two results that one contract allows are equal, for each public call: a contract gives a verdict and the bytes of each output, or the answer, by an
-- equation. Assumes nothing.
use mathlib.Core.Path.{◌≡◌, sym, ap, ◌∙◌}
use Rattle.basics.proofs.Verdicts.{gives_unique, answer_unique}
use Rattle.reading.specs.declared.Step.{Step}
use Rattle.reading.specs.Reading.{moved_by}
use Rattle.reading.specs.Readers.{cursor_of, moved_to}
use Rattle.transfer.specs.Demands.{Unique}

pub unique : Unique
unique = record {
  told = answer_unique;
  hash = λ input digest r₁ r₂ digest₁ digest₂ g h. gives_unique g h;
  block = λ key nonce counter out r₁ r₂ out₁ out₂ g h. gives_unique g h;
  prepare = λ seeded mode m n l session first second selections message kept r₁ r₂ message₁ message₂ kept₁ kept₂ g h.
      let a = gives_unique g.sent h.sent in
      (a.0, a.1, (gives_unique g.rows h.rows).1);
  answer = λ seeded mode m n l session secret taken strings columns message r₁ r₂ message₁ message₂ g h. gives_unique g h;
  opening = λ mode m n l session selections kept message opened r₁ r₂ opened₁ opened₂ g h. gives_unique g h;
  new = λ message r₁ r₂ g h. g ∙ sym h;
  next = λ before after₁ after₂ t₁ t₂ g h.
      let e : t₁ ≡ t₂ = g.answers ∙ sym h.answers in
      (e, g.moves ∙ ap (λ (t : Step). moved_to before (moved_by (cursor_of before) t)) e ∙ sym h.moves);
  step = λ message c r₁ r₂ g h. g.answers ∙ sym h.answers;
  list = λ message r₁ r₂ g h. g.is ∙ sym h.is;
}
