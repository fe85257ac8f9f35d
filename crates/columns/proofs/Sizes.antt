-- k and the row's bytes by a shape's mode are those of the mode's code. Assumes nothing.
use mathlib.Core.Path.{◌≡◌, refl}
use mathlib.Core.Bool.{Bool, true, false}
use Prim.Native.Nat.{ℕ, ◌/◌}
use lib.Dec.{eqb}
use Rattle.basics.specs.Choice.{pick}
use Rattle.words.specs.Code.{k, pairs, choices, code_of}
use Rattle.wire.specs.Shapes.{k_of}

pub k_of_lem : (mode : ℕ) → k_of mode ≡ k (code_of mode)
unfolding k_of code_of
k_of_lem mode = cases (eqb mode 2)
  where
    cases : (t : Bool) → pick t 256 128 ≡ k (pick t choices pairs)
    cases true = refl
    cases false = refl

pub row_of : (mode : ℕ) → k_of mode / 8 ≡ (code_of mode).width
unfolding k_of code_of
row_of mode = cases (eqb mode 2)
  where
    cases : (t : Bool) → pick t 256 128 / 8 ≡ (pick t choices pairs).width
    cases true = refl
    cases false = refl
