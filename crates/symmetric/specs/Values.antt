-- The structs and arrays of the code as the lists of words that the standards speak of.
use Rattle.std.specs.Prelude.{◌≡◌, ℕ, List, [], ◌∷◌, ◌++◌, length, take}
use Rattle.symmetric.specs.Sha.{schedule}
use Rattle.symmetric.specs.declared.rounds.State.{State}
use Rattle.symmetric.specs.declared.cipher.Row.{Row}
use Rattle.symmetric.specs.declared.cipher.Grid.{Grid}

-- the eight words of a hash value, or the working variables a to h
abbrev pub words : State → List ℕ
words s = s.a ∷ s.b ∷ s.c ∷ s.d ∷ s.e ∷ s.f ∷ s.g ∷ s.h ∷ []

-- w, an array of 64 words, holds the first t words of the schedule of the block bs
pub record Scheduled (bs : List ℕ) (t : ℕ) (w : List ℕ) : Type 0 where
  pub room : length w ≡ 64
  pub holds : take t w ≡ schedule bs t

-- four words, and the sixteen of four rows
abbrev pub row : Row → List ℕ
row r = r.a ∷ r.b ∷ r.c ∷ r.d ∷ []

abbrev pub cells : Grid → List ℕ
cells s = row s.a ++ row s.b ++ row s.c ++ row s.d
