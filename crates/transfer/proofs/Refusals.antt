-- Demand 1, from each call's contract and its lines. Assumes nothing.
use mathlib.Core.Path.{◌≡◌, refl, sym, ap, ◌∙◌, subst}
use mathlib.Core.Bool.{Bool}
use mathlib.Core.List.{List, ◌++◌}
use Prim.Native.Nat.{ℕ, ◌<◌}
use native.Mathlib.Omega.{arith}
use borrow.Author.Tests.{eq-eqb, ne_eqb}
use Rattle.basics.specs.declared.Verdict.{Verdict}
use Rattle.basics.specs.Choice.{pick}
use Rattle.basics.specs.Verdicts.{at, pass}
use Rattle.basics.proofs.Verdicts.{gives_refused}
use Rattle.reading.specs.declared.Cursor.{Cursor}
use Rattle.reading.specs.declared.Step.{Step}
use Rattle.reading.specs.declared.Step.TheVariants as case
use Rattle.reading.specs.Reading.{shape_in, tag_in, length_in, number_of, moved_by}
use Rattle.reading.specs.Readers.{cursor_of, moved_to}
use Rattle.reading.proofs.Reading.{step_number}
use Rattle.listing.specs.Text.{listed}
use Rattle.listing.specs.Lines.{shape_line, session_line, block_line, refused_line, list_verdict, listing_of}
use Rattle.transfer.specs.Rules.{Rule, Decided, step_rules}
use Rattle.transfer.specs.Demands.{Refuses, Demand1}
use Rattle.transfer.proofs.Rules.{prepare_decided, answer_decided, open_decided, hash_decided, cipher_decided, step_decided, list_decided}

refuses : {rules : List Rule} {v r : Verdict} {unchanged : Type 0} → Decided rules v → r ≡ v → ((r.code ≡ 0 → ⊥) → unchanged) → Refuses rules r unchanged
refuses {rules} d e same = record { exactly = subst (Decided rules) (sym e) d; untouched = λ pos. same (λ z. omega arith) }

-- the three lines of a message that is not refused
abbrev listed_lines : List ℕ → List ℕ
listed_lines message = shape_line (tag_in message) (shape_in message) ++ (session_line message ++ block_line (length_in message))

-- the line that a listing prints, by its verdict
module _ (message : List ℕ) where
  refused_line_lem : (n p : ℕ) → 0 < n → list_verdict message ≡ at n p → listing_of message ≡ refused_line n p
  unfolding listing_of
  refused_line_lem n p pos e =
      let code : (list_verdict message).code ≡ n = ap (λ (x : Verdict). x.code) e in
      ap (λ (t : Bool). pick t (listed_lines message) (refused_line (list_verdict message).code (list_verdict message).place))
      (ne_eqb (list_verdict message).code 0 (λ z. omega arith))
      ∙ ap (λ (x : Verdict). refused_line x.code x.place) e

  listed-line : list_verdict message ≡ pass → listing_of message ≡ listed_lines message
  unfolding listing_of
  listed-line e =
      ap (λ (t : Bool). pick t (listed_lines message) (refused_line (list_verdict message).code (list_verdict message).place))
      (eq-eqb (list_verdict message).code 0 (ap (λ (x : Verdict). x.code) e))

-- a refusal leaves the reader where it was
refused_stays : (c : Cursor) (t : Step) → 0 < (number_of t).code → moved_by c t ≡ c
refused_stays c (case.Shape s next) h = absurd (omega arith)
refused_stays c (case.Session place len next) h = absurd (omega arith)
refused_stays c (case.Block tag place len next) h = absurd (omega arith)
refused_stays c case.End h = refl
refused_stays c (case.Refused r) h = refl

pub demand_1 : Demand1
demand_1 = record {
  hash = λ input digest r digest' g. refuses (hash_decided _ _) g.verdict (gives_refused g);
  block = λ key nonce counter out r out' g. refuses (cipher_decided _ _ _) g.verdict (gives_refused g);
  prepare = λ seeded mode m n l session first second selections message kept r message' kept' g.
      refuses (prepare_decided seeded mode m n l session first second selections _ _) g.sent.verdict (λ z. (gives_refused g.sent z, gives_refused g.rows z));
  answer = λ seeded mode m n l session secret taken strings columns message r message' g.
      refuses (answer_decided seeded mode m n l session secret taken strings columns _) g.verdict (gives_refused g);
  opening = λ mode m n l session selections kept message opened r opened' g.
      refuses (open_decided mode m n l session selections kept message _) g.verdict (gives_refused g);
  next = λ before after t g.
      let message = before.message.now in
      record {
        exactly = subst (Decided (step_rules message (cursor_of before))) (sym (ap number_of g.answers ∙ step_number message (cursor_of before)))
            (step_decided message (cursor_of before));
        untouched = λ h. g.moves ∙ ap (moved_to before) (refused_stays (cursor_of before) t h);
      };
  step = λ message c r g. subst (Decided _) (sym g.number) (step_decided message c);
  list = λ message r g.
      let d = list_decided message in (
        d,
        λ n p pos t. g.is ∙ ap listed (refused_line_lem message n p pos ((d.refused n p pos).1 t)),
        λ z. g.is ∙ ap listed (listed-line message (d.passed.1 z)),
      );
}
