-- What a verdict of 0 tells of the lengths. Assumes nothing.
use Rattle.std.proofs.Common.{◌≡◌, ℕ, ◌≤◌, eqb, leb, sym, ap, ◌∙◌, arith, eqb-true, leb-true}
use Rattle.basics.specs.declared.Verdict.{Verdict}
use Rattle.basics.proofs.Verdicts.{unless_ok}
use Rattle.symmetric.specs.Calls.{most_input, hash_verdict, block_verdict}

pub record HashLengths (input digest : ℕ) : Type 0 where
  pub few : input ≤ 65535
  pub digest_long : digest ≡ 32

pub hash_passed : (v : Verdict) (input digest : ℕ) → v ≡ hash_verdict input digest → v.code ≡ 0 → HashLengths input digest
unfolding hash_verdict
hash_passed v input digest e z =
    let a = unless_ok (leb input most_input) _ _ _ (omega arith) (sym (ap (λ (x : Verdict). x.code) e) ∙ z) in
    let b = unless_ok (eqb digest 32) _ _ _ (omega arith) a.1 in
    record { few = leb-true _ _ a.0; digest_long = eqb-true _ _ b.0 }

pub record BlockLengths (key nonce out : ℕ) : Type 0 where
  pub key_long : key ≡ 32
  pub nonce_long : nonce ≡ 12
  pub out_long : out ≡ 64

pub block_passed : (v : Verdict) (key nonce out : ℕ) → v ≡ block_verdict key nonce out → v.code ≡ 0 → BlockLengths key nonce out
unfolding block_verdict
block_passed v key nonce out e z =
    let a = unless_ok (eqb key 32) _ _ _ (omega arith) (sym (ap (λ (x : Verdict). x.code) e) ∙ z) in
    let b = unless_ok (eqb nonce 12) _ _ _ (omega arith) a.1 in
    let d = unless_ok (eqb out 64) _ _ _ (omega arith) b.1 in
    record { key_long = eqb-true _ _ a.0; nonce_long = eqb-true _ _ b.0; out_long = eqb-true _ _ d.0 }
