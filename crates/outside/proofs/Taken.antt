-- Laws of what is taken: by the bit of the secret, and for a whole set the definition of the construction. Assumes nothing.
use mathlib.Core.Path.{◌≡◌, refl}
use mathlib.Core.List.{List}
use Prim.Native.Nat.{ℕ, ◌*◌}
use lib.ListN.{length}
use Rattle.basics.proofs.Bytes.{length-build}
use Rattle.words.specs.Code.{Code, k}
use Rattle.construction.specs.Transfer.{select}
use Rattle.outside.specs.Taken.{taken_set}

pub length-taken_set : (width : ℕ) (secret first second : List ℕ) (len : ℕ) → length (taken_set width secret first second len) ≡ len
unfolding taken_set
length-taken_set width secret first second len = length-build len _

-- a whole set, as the demands on the construction speak of it
pub taken_set-select : (C : Code) (width : ℕ) (secret first second : List ℕ) → taken_set width secret first second (k C * width) ≡ select C width secret first second
unfolding taken_set select
taken_set-select C width secret first second = refl
