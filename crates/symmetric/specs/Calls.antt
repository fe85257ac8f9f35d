-- Document 01, sections 4 and 7: the verdicts of the two public calls, from the lengths of what is lent.
use Rattle.std.specs.Prelude.{ℕ, ◌==◌, nat_le}
use Rattle.basics.specs.declared.Verdict.{Verdict}
use Rattle.basics.specs.Verdicts.{pass, unless}

-- the longest input of the hash
abbrev pub most_input : ℕ
most_input = 65535

unfoldable pub hash_verdict : ℕ → ℕ → Verdict
hash_verdict input digest = unless (nat_le input most_input) 6 1 (unless (digest == 32) 7 1 pass)

unfoldable pub block_verdict : ℕ → ℕ → ℕ → Verdict
block_verdict key nonce out = unless (key == 32) 6 1 (unless (nonce == 12) 6 2 (unless (out == 64) 7 1 pass))
