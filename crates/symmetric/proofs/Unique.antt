-- Document 01, section 11: two results that one contract allows are equal, for both calls. Assumes nothing.
use Rattle.std.proofs.Common.{◌≡◌, ℕ, List, length}
use Rattle.std.specs.Prelude.{Result}
use Rattle.basics.specs.declared.Refusal.{Refusal}
use Rattle.basics.specs.declared.Verdict.{Verdict}
use Rattle.basics.specs.Verdicts.{Gives, verdict}
use Rattle.basics.proofs.Verdicts.{gives_unique, answer_unique}
use Rattle.symmetric.specs.Sha.{sha256}
use Rattle.symmetric.specs.ChaCha.{chacha20}
use Rattle.symmetric.specs.Calls.{hash_verdict, block_verdict}

pub hash_unique : (input digest : List ℕ) {r₁ r₂ : Verdict} {now₁ now₂ : List ℕ}
    → Gives (hash_verdict (length input) (length digest)) (sha256 input) digest r₁ now₁
    → Gives (hash_verdict (length input) (length digest)) (sha256 input) digest r₂ now₂ → (r₁ ≡ r₂) × (now₁ ≡ now₂)
hash_unique input digest p q = gives_unique p q

pub block_unique : (key nonce : List ℕ) (counter : ℕ) (out : List ℕ) {r₁ r₂ : Verdict} {now₁ now₂ : List ℕ}
    → Gives (block_verdict (length key) (length nonce) (length out)) (chacha20 key nonce counter) out r₁ now₁
    → Gives (block_verdict (length key) (length nonce) (length out)) (chacha20 key nonce counter) out r₂ now₂ → (r₁ ≡ r₂) × (now₁ ≡ now₂)
block_unique key nonce counter out p q = gives_unique p q

-- the same of what the calls answer, which is a refusal or success and no verdict

pub hash_answer_unique : (input digest : List ℕ) {a₁ a₂ : Result (Unit {0}) Refusal} {now₁ now₂ : List ℕ}
    → Gives (hash_verdict (length input) (length digest)) (sha256 input) digest (verdict a₁) now₁
    → Gives (hash_verdict (length input) (length digest)) (sha256 input) digest (verdict a₂) now₂ → (a₁ ≡ a₂) × (now₁ ≡ now₂)
hash_answer_unique input digest {a₁} {a₂} p q = let e = gives_unique p q in (answer_unique a₁ a₂ e.0, e.1)

pub block_answer_unique : (key nonce : List ℕ) (counter : ℕ) (out : List ℕ) {a₁ a₂ : Result (Unit {0}) Refusal} {now₁ now₂ : List ℕ}
    → Gives (block_verdict (length key) (length nonce) (length out)) (chacha20 key nonce counter) out (verdict a₁) now₁
    → Gives (block_verdict (length key) (length nonce) (length out)) (chacha20 key nonce counter) out (verdict a₂) now₂ → (a₁ ≡ a₂) × (now₁ ≡ now₂)
block_answer_unique key nonce counter out {a₁} {a₂} p q = let e = gives_unique p q in (answer_unique a₁ a₂ e.0, e.1)
