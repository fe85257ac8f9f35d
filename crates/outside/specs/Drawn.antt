-- The generator of peer/CASES.md, on numbers of 32 bits: a step's byte is the state's lowest, after the step.
use Rattle.std.specs.Prelude.{◌≡◌, List, ℕ, zero, suc, ◌+◌, ◌*◌, ◌/◌, ◌%◌, ◌^◌, length}
use Rattle.std.specs.Int.Bits.{bit_xor}
use Rattle.basics.specs.Bytes.{build}

-- x xor (x << by), and x xor (x >> by)
abbrev pub left : ℕ → ℕ → ℕ
left by x = bit_xor x (x * 2 ^ by % 2 ^ 32)

abbrev pub right : ℕ → ℕ → ℕ
right by x = bit_xor x (x / 2 ^ by)

unfoldable pub stepped : ℕ → ℕ
stepped x = left 5 (right 17 (left 13 x))

-- the state after n steps
unfoldable pub state_after : ℕ → ℕ → ℕ
state_after x zero = x
state_after x (suc n) = stepped (state_after x n)

-- what filling a buffer leaves in it, and the state then
pub record Drawn (x : ℕ) (old : List ℕ) (r : ℕ) (now : List ℕ) : Type 0 where
  pub state : r ≡ state_after x (length old)
  pub bytes : now ≡ build (length old) (λ p. state_after x (p + 1) % 256)
