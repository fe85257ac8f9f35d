-- The selected string of each row: document 01, section 5, 'the masked string at place r(j)'; strings stand at byte (j·n + r)·l.
use Rattle.std.specs.Prelude.{◌≡◌, Bool, ◌&&◌, List, ℕ, ◌+◌, ◌*◌, ◌/◌, ◌%◌, ◌≤◌, ◌<◌, eqb, leb, length, get_or}
use Rattle.basics.specs.Choice.{pick}
use Rattle.basics.specs.Bytes.{build, line}

-- of each row j of n strings of l bytes the string at place r(j), one after the other; a place that the row does not have gives zeros
unfoldable pub selected : ℕ → ℕ → ℕ → List ℕ → List ℕ → List ℕ
selected m n l selections strings = build (m * l) (λ p. get_or (line (n * l) strings (p / l)) (get_or selections (p / l) 0 * l + p % l) 0)

-- 1 to 256 places, strings of some bytes, and by their lengths a selection and n strings for each of m rows, and the strings that are given
abbrev pub select_fit : ℕ → ℕ → ℕ → ℕ → ℕ → ℕ → Bool
select_fit m n l selections strings old =
    leb 1 n && (leb n 256 && (leb 1 l && (eqb selections m && (eqb strings (m * n * l) && eqb old (m * l)))))

-- what a buffer holds after it was given the selected strings; as it was where the numbers do not fit
unfoldable pub selected_over : ℕ → ℕ → ℕ → List ℕ → List ℕ → List ℕ → List ℕ
selected_over m n l selections strings old =
    pick (select_fit m n l (length selections) (length strings) (length old)) (selected m n l selections strings) old

-- the same test as facts
pub record Fits (m n l selections strings old : ℕ) : Type 0 where
  pub rows_few : m < 65536
  pub places_some : 1 ≤ n
  pub places_few : n ≤ 256
  pub bytes_some : 1 ≤ l
  pub bytes_few : l < 256
  pub selections_long : selections ≡ m
  pub strings_long : strings ≡ m * n * l
  pub old_long : old ≡ m * l
