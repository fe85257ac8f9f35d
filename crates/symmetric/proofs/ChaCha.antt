-- Laws of specs/ChaCha.antt, in its order. Assumes nothing.
use Rattle.std.proofs.Common.{◌≡◌, ℕ, ◌+◌, List, sym, ap, ◌∙◌, add-one}
use Rattle.symmetric.specs.ChaCha.{inner_block, double_rounds}

-- one more double round
pub double_rounds_more : (s : List ℕ) (n : ℕ) {v r : List ℕ} → v ≡ double_rounds s n → r ≡ inner_block v → r ≡ double_rounds s (n + 1)
unfolding double_rounds
double_rounds_more s n e f = f ∙ ap inner_block e ∙ sym (ap (double_rounds s) (add-one n))
