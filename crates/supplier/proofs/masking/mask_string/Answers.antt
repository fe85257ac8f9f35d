-- `mask_string` meets its contract: the row is xored over the word, and the pad of what stands in front of it over the string. Assumes nothing.
use Rattle.std.proofs.Common.{ℕ, List, length, take, arith, ap, ◌∙◌}
use native.Mathlib.Nat.{sub-zero}
use lib.ListN.{length-take}
use Rattle.basics.specs.Bytes.{◌⊕◌}
use Rattle.basics.proofs.Bytes.{xor_front}
use Rattle.pads.specs.Pads.{pad_bytes}
use Rattle.pads.proofs.Pads.{pad_masked_fit}
use Rattle.supplier.proofs.masking.mask_string.Goals as goal

pub returns : goal.returns
returns c =
    let a = c.args in
    c.mask.ensures
    ∙ pad_masked_fit a.session.now a.j _ a.string.now c.requires.0 (simp length-take (omega (arith, c.requires.1))) c.requires.2
    ∙ ap (λ (t : List ℕ). a.string.now ⊕ pad_bytes a.session.now (length a.string.now) a.j t)
    (ap (λ (n : ℕ). take n c.xor_into.new.out) (sub-zero (length a.row.now)) ∙ ap (take (length a.row.now)) c.xor_into.ensures
    ∙ xor_front a.row.now a.word (omega (arith, c.requires.1)))
