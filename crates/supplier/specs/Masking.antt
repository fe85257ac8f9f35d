-- Masking, place by place: document 01, section 5, the string at row j, place r. `Answer` has the masked strings as a whole.
use Rattle.std.specs.Prelude.{◌≡◌, List, ℕ, ◌+◌, ◌*◌, ◌/◌, ◌%◌, ◌≤◌, ◌<◌, length, get_or}
use Rattle.words.specs.Code.{code_of}

-- the bounds and lengths that masking asks for: session, secret, rows, strings
pub record MaskFit (mode m n l session secret rows strings : ℕ) : Type 0 where
  pub rows_few : m ≤ 1024
  pub places_few : n ≤ 256
  pub bytes_few : l ≤ 32
  pub session_long : session ≡ 12
  pub secret_long : secret ≡ (code_of mode).width
  pub rows_long : rows ≡ m * (code_of mode).width
  pub strings_long : strings ≡ m * n * l

-- n strings of l bytes a row, of which those at place r hold f in the first j rows; every other string stays
pub record Placed (f : ℕ → ℕ) (n l r j : ℕ) (old now : List ℕ) : Type 0 where
  pub long : length now ≡ length old
  pub new : (i b : ℕ) → i < j → b < l → get_or now ((i * n + r) * l + b) 0 ≡ f ((i * n + r) * l + b)
  pub same : (p : ℕ) → (p / l % n ≡ r → p / l / n < j → ⊥) → get_or now p 0 ≡ get_or old p 0
