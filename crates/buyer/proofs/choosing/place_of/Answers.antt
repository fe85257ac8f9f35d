-- `place_of`: a bit of a word's byte is the word's place.
use mathlib.Core.Path.{ap, ◌∙◌}
use Prim.Native.Nat.{ℕ, ◌%◌}
use Rattle.basics.specs.Bytes.{bit}
use Rattle.words.specs.Code.{code_of}
use Rattle.basics.proofs.Bytes.{bit_small}
use Rattle.words.proofs.Words.{word_place}
use Rattle.buyer.proofs.choosing.place_of.Goals as goal

pub returns : goal.returns
returns c =
    let a = c.args in
    (ap (λ (b : ℕ). bit b (a.i % 8)) c.selected_byte.ensures ∙ word_place (code_of a.mode) a.r a.i c.requires, bit_small c.selected_byte.result (a.i % 8))
