-- P1 to P12 of document 01, by computation: a test of the two lists computes to true, and a law turns it into the claim (dearer by far is `refl`). Assumes nothing.
use mathlib.Core.Path.{◌≡◌, refl, ap₂}
use mathlib.Core.Bool.{Bool, true, false}
use mathlib.Core.List.{List, [], ◌∷◌}
use lib.Dec.{T, eqb, eqb→eq}
use lib.Count.{ones, ones_in}
use Rattle.words.specs.Code.{parity}
use Rattle.basics.specs.Bytes.{from, build, pack, lines, ◌⊕◌, ◌⊙◌}
use Rattle.construction.specs.Transfer.{select, hashed, chosen, rows, message, kept, taking}
use Rattle.construction.specs.Marked.{found, wanted, Marked}

abbrev both : Bool → Bool → Bool
both true b = b
both false b = false

both_left : (a b : Bool) → T (both a b) → T a
both_left true b t = tt
both_left false b t = t

both_right : (a b : Bool) → T (both a b) → T b
both_right true b t = t
both_right false b t = absurd t

-- two lists are the same, where eq tells their elements apart
module _ {A : Type 0} (eq : A → A → Bool) where
  same : List A → List A → Bool
  same [] [] = true
  same [] (y ∷ ys) = false
  same (x ∷ xs) [] = false
  same (x ∷ xs) (y ∷ ys) = both (eq x y) (same xs ys)

  same_is : ((x y : A) → T (eq x y) → x ≡ y) → (xs ys : List A) → T (same xs ys) → xs ≡ ys
  unfolding same
  same_is h [] [] t = refl
  same_is h [] (y ∷ ys) t = absurd t
  same_is h (x ∷ xs) [] t = absurd t
  same_is h (x ∷ xs) (y ∷ ys) t =
      ap₂ ◌∷◌ (h x y (both_left (eq x y) (same xs ys) t)) (same_is h xs ys (both_right (eq x y) (same xs ys) t))

test : T (same (same eqb) found wanted)
unfolding found wanted from build pack lines ◌⊕◌ ◌⊙◌ select hashed chosen rows message kept taking parity ones ones_in same
test = tt

pub marked : Marked
marked = same_is (same eqb) (same_is eqb eqb→eq) found wanted test
