-- Taking: document 01, section 5, the rows q. `Answer` has them, and what comes of them.
use Rattle.std.specs.Prelude.{◌≡◌, Bool, ℕ, ◌*◌, ◌≤◌}
use Rattle.basics.specs.Padding.{col_bytes}
use Rattle.words.specs.Code.{code_of}
use Rattle.columns.specs.Sets.{entry_bytes}

-- the lengths that taking asks for: session, secret, taken set, the message's block, rows
pub record TakeFit (seeded : Bool) (mode m session secret taken block rows : ℕ) : Type 0 where
  pub some : 1 ≤ m
  pub few : m ≤ 1024
  pub session_long : session ≡ 12
  pub secret_long : secret ≡ (code_of mode).width
  pub taken_long : taken ≡ (code_of mode).width * (8 * entry_bytes seeded m)
  pub block_long : block ≡ (code_of mode).width * (8 * col_bytes m)
  pub rows_long : rows ≡ m * (code_of mode).width
