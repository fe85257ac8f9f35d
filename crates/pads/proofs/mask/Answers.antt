-- `mask` meets its contract: where the lengths fit, the pad is xored over the string as far as it reaches. Assumes nothing.
use Rattle.std.proofs.Common.{List, ℕ, sym, ap, ◌∙◌, arith}
use Rattle.basics.specs.Bytes.{◌⊕◌}
use Rattle.pads.specs.Pads.{pad_bytes}
use Rattle.pads.proofs.Pads.{pad_unfit, pad_front, pad_masked_fit}
use Rattle.pads.proofs.mask.Goals as goal

pub returns-in_default : goal.returns-in_default
returns-in_default c = let a = c.args in pad_unfit a.session.now a.j a.row.now a.string.now (λ f. c.in_default.ensures.cases f.session_long)

pub returns-then-string-le-DIGEST_BYTES : goal.returns-then-string-le-DIGEST_BYTES
returns-then-string-le-DIGEST_BYTES c =
    let a = c.args in
    let whole = c.in-Some.ensures.cases in
    c.xor_into.ensures
    ∙ ap (λ (x : List ℕ). a.string.now ⊕ x) (c.pad.ensures ∙ ap (λ (s : List ℕ). pad_bytes s 32 a.j a.row.now) whole.same)
    ∙ pad_front a.session.now a.j a.row.now a.string.now (omega arith)
    ∙ sym (pad_masked_fit a.session.now a.j a.row.now a.string.now whole.long (omega arith) (omega arith))

pub returns-else-row-le-MOST_ROW : goal.returns-else-row-le-MOST_ROW
returns-else-row-le-MOST_ROW c = let a = c.args in pad_unfit a.session.now a.j a.row.now a.string.now (λ f. absurd (omega (arith, c.else-row-le-MOST_ROW.either)))
