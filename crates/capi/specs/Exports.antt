-- What the exported functions give back: a verdict as one number, and lent outputs as the calls themselves leave them.
use Rattle.std.specs.Prelude.{◌≡◌, List, ℕ, ◌+◌, ◌*◌, ◌%◌, ◌^◌}
use Rattle.basics.specs.declared.Verdict.{Verdict}
use Rattle.basics.specs.Verdicts.{written}

-- code · 2^32 + place. Every place is far below 2^32; the remainder keeps the number whole without a proof of that
unfoldable pub verdict_number : Verdict → ℕ
verdict_number v = v.code * 2 ^ 32 + v.place % 2 ^ 32

-- the number of the verdict v, and in an output that held `old` the bytes `new`, or on a refusal what it held
pub record Exports (v : Verdict) (new old : List ℕ) (r : ℕ) (now : List ℕ) : Type 0 where
  pub number : r ≡ verdict_number v
  pub output : now ≡ written v new old
