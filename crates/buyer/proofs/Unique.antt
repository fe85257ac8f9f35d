-- Two results that one contract allows are equal, for each public call. Assumes nothing.
use mathlib.Core.Path.{◌≡◌}
use mathlib.Core.Bool.{Bool}
use mathlib.Core.List.{List}
use Prim.Native.Nat.{ℕ}
use Rattle.std.specs.Prelude.{Result}
use Rattle.basics.specs.declared.Refusal.{Refusal}
use Rattle.basics.specs.declared.Verdict.{Verdict}
use Rattle.basics.specs.Verdicts.{verdict}
use Rattle.basics.proofs.Verdicts.{gives_unique, answer_unique}
use Rattle.buyer.specs.Prepare.{Prepared}
use Rattle.buyer.specs.Open.{Opened}

pub prepared_unique : {seeded : Bool} {mode m n l : ℕ} {session first second selections message kept : List ℕ} {r₁ r₂ : Verdict} {message₁ message₂ kept₁ kept₂ : List ℕ}
    → Prepared seeded mode m n l session first second selections message kept r₁ message₁ kept₁
    → Prepared seeded mode m n l session first second selections message kept r₂ message₂ kept₂
    → (r₁ ≡ r₂) × (message₁ ≡ message₂) × (kept₁ ≡ kept₂)
prepared_unique p q =
    let sent = gives_unique p.sent q.sent in
    (sent.0, sent.1, (gives_unique p.rows q.rows).1)

module _ (mode m n l : ℕ) (session selections kept message : List ℕ) {old : List ℕ} {r₁ r₂ : Verdict} {now₁ now₂ : List ℕ} where
  pub opened_unique : Opened mode m n l session selections kept message old r₁ now₁ → Opened mode m n l session selections kept message old r₂ now₂
      → (r₁ ≡ r₂) × (now₁ ≡ now₂)
  opened_unique p q = gives_unique p q

-- the same of what the calls answer, which is a refusal or success and no verdict

pub prepared_answer_unique : {seeded : Bool} {mode m n l : ℕ} {session first second selections message kept : List ℕ} {a₁ a₂ : Result (Unit {0}) Refusal}
    {message₁ message₂ kept₁ kept₂ : List ℕ} → Prepared seeded mode m n l session first second selections message kept (verdict a₁) message₁ kept₁
    → Prepared seeded mode m n l session first second selections message kept (verdict a₂) message₂ kept₂
    → (a₁ ≡ a₂) × (message₁ ≡ message₂) × (kept₁ ≡ kept₂)
prepared_answer_unique {a₁ = a₁} {a₂ = a₂} p q = let e = prepared_unique p q in (answer_unique a₁ a₂ e.0, e.1, e.2)

module _ (mode m n l : ℕ) (session selections kept message : List ℕ) {old : List ℕ} {a₁ a₂ : Result (Unit {0}) Refusal} {now₁ now₂ : List ℕ} where
  pub opened_answer_unique : Opened mode m n l session selections kept message old (verdict a₁) now₁
      → Opened mode m n l session selections kept message old (verdict a₂) now₂ → (a₁ ≡ a₂) × (now₁ ≡ now₂)
  opened_answer_unique p q = let e = opened_unique mode m n l session selections kept message p q in (answer_unique a₁ a₂ e.0, e.1)
