-- Document 01, section 11: two results that one contract allows are equal, for both forms. Assumes nothing.
use mathlib.Core.Path.{◌≡◌}
use mathlib.Core.Bool.{Bool}
use mathlib.Core.List.{List}
use Prim.Native.Nat.{ℕ}
use Rattle.std.specs.Prelude.{Result}
use Rattle.basics.specs.declared.Refusal.{Refusal}
use Rattle.basics.specs.declared.Verdict.{Verdict}
use Rattle.basics.specs.Verdicts.{verdict}
use Rattle.basics.proofs.Verdicts.{answer_unique, gives_unique}
use Rattle.supplier.specs.Answer.{Answered}

module _ (seeded : Bool) (mode m n l : ℕ) (session secret taken strings columns : List ℕ) {old : List ℕ} {r₁ r₂ : Verdict} {now₁ now₂ : List ℕ} where
  pub answered_unique : Answered seeded mode m n l session secret taken strings columns old r₁ now₁
      → Answered seeded mode m n l session secret taken strings columns old r₂ now₂ → (r₁ ≡ r₂) × (now₁ ≡ now₂)
  answered_unique p q = gives_unique p q

-- the same for what the calls themselves give back
module _ (seeded : Bool) (mode m n l : ℕ) (session secret taken strings columns : List ℕ) {old now₁ now₂ : List ℕ} (a b : Result (Unit {0}) Refusal) where
  pub answer_results_unique : Answered seeded mode m n l session secret taken strings columns old (verdict a) now₁
      → Answered seeded mode m n l session secret taken strings columns old (verdict b) now₂ → (a ≡ b) × (now₁ ≡ now₂)
  answer_results_unique p q = let u = gives_unique p q in (answer_unique a b u.0, u.1)
