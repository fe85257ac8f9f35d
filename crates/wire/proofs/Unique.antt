-- Two results that one contract allows are equal, for each public call of this crate. Assumes nothing.
use mathlib.Core.Path.{◌≡◌, sym, ◌∙◌}
use mathlib.Core.List.{List}
use Prim.Native.Nat.{ℕ}
use Rattle.std.specs.Prelude.{Result}
use Rattle.basics.specs.declared.Refusal.{Refusal}
use Rattle.basics.specs.declared.Verdict.{Verdict}
use Rattle.basics.specs.Verdicts.{verdict}
use Rattle.basics.proofs.Verdicts.{answer_unique}
use Rattle.wire.specs.declared.Shape.{Shape}
use Rattle.wire.specs.Shapes.{verdict_of, length_of, Width}
use Rattle.wire.specs.Message.{header_written}
use Rattle.wire.specs.Received.{padding_verdict, received}

-- a contract that is an equation
pub same : {A : Type 0} {x y z : A} → x ≡ z → y ≡ z → x ≡ y
same p q = p ∙ sym q

pub judge_shape_unique : (s : Shape) {r₁ r₂ : Verdict} → r₁ ≡ verdict_of s → r₂ ≡ verdict_of s → r₁ ≡ r₂
judge_shape_unique s = same

pub columns_of_unique : {mode r₁ r₂ : ℕ} → Width mode r₁ → Width mode r₂ → r₁ ≡ r₂
columns_of_unique p q = same p.is q.is

pub block-length_unique : (tag : ℕ) (s : Shape) {r₁ r₂ : ℕ} → r₁ ≡ length_of tag s → r₂ ≡ length_of tag s → r₁ ≡ r₂
block-length_unique tag s = same

pub write_header_unique : (tag len : ℕ) (s : Shape) (session old : List ℕ) {now₁ now₂ : List ℕ}
    → now₁ ≡ header_written tag len s.mode s.rows s.places s.bytes session old
    → now₂ ≡ header_written tag len s.mode s.rows s.places s.bytes session old → now₁ ≡ now₂
write_header_unique tag len s session old = same

pub check_padding_unique : (tag : ℕ) (s : Shape) (message : List ℕ) {r₁ r₂ : Verdict} → r₁ ≡ padding_verdict tag s.mode s.rows message
    → r₂ ≡ padding_verdict tag s.mode s.rows message → r₁ ≡ r₂
check_padding_unique tag s message = same

pub check_received_unique : (tag : ℕ) (s : Shape) (session message : List ℕ) {r₁ r₂ : Verdict}
    → r₁ ≡ received tag s.mode s.rows s.places s.bytes session message
    → r₂ ≡ received tag s.mode s.rows s.places s.bytes session message → r₁ ≡ r₂
check_received_unique tag s session message = same

-- the same of what the calls answer, which is a refusal or success and no verdict

pub judge_shape_answer_unique : (s : Shape) {a₁ a₂ : Result (Unit {0}) Refusal} → verdict a₁ ≡ verdict_of s → verdict a₂ ≡ verdict_of s → a₁ ≡ a₂
judge_shape_answer_unique s {a₁} {a₂} p q = answer_unique a₁ a₂ (same p q)

pub check_padding_answer_unique : (tag : ℕ) (s : Shape) (message : List ℕ) {a₁ a₂ : Result (Unit {0}) Refusal}
    → verdict a₁ ≡ padding_verdict tag s.mode s.rows message
    → verdict a₂ ≡ padding_verdict tag s.mode s.rows message → a₁ ≡ a₂
check_padding_answer_unique tag s message {a₁} {a₂} p q = answer_unique a₁ a₂ (same p q)

pub check_received_answer_unique : (tag : ℕ) (s : Shape) (session message : List ℕ) {a₁ a₂ : Result (Unit {0}) Refusal}
    → verdict a₁ ≡ received tag s.mode s.rows s.places s.bytes session message
    → verdict a₂ ≡ received tag s.mode s.rows s.places s.bytes session message → a₁ ≡ a₂
check_received_answer_unique tag s session message {a₁} {a₂} p q = answer_unique a₁ a₂ (same p q)
