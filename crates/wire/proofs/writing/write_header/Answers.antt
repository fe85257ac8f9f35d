-- The header is written where all three lengths fit. The answers hold of a session that is cut to its 12 bytes too, so that what the edit
-- `writes_for_a_short_session` breaks is the session's length and not the form of the copy.
use Rattle.std.proofs.lemmas.List.{length-take, length-drop, length-append, take_all}
use Rattle.std.proofs.Common.{◌≡◌, ◌≤◌, ◌∙◌, ◌/◌, ◌%◌, ℕ, List, [], ◌∷◌, length, get_or, refl, sym, ap, arith}
use Rattle.wire.specs.Message.{header}
use Rattle.wire.proofs.Message.{three_parts, header-written}
use Rattle.wire.proofs.writing.write_header.Goals as goal

pub copy_from_slice-requires-2 : goal.copy_from_slice-requires-2
copy_from_slice-requires-2 c = simp (length-take, length-drop, length-append) (omega arith)

pub returns : goal.returns
unfolding header
returns c =
    let a = c.args in
    let whole : length a.session.now ≤ 12 = omega arith in
    let high : a.len / 256 % 256 ≡ a.len / 256 = omega arith in
    three_parts a.out.now c.if-out-ne-BLOCK_AT.false
    (c.copy_from_slice.ensures.after
    ∙ ap (λ (s : List ℕ). 1 ∷ 0 ∷ 6 ∷ get_or s 0 0 ∷ get_or s 1 0 ∷ get_or s 2 0 ∷ get_or s 3 0 ∷ get_or s 4 0 ∷ get_or s 5 0 ∷ 2 ∷ 0 ∷ 12 ∷ []) c.shape_bytes-shape.ensures)
    (c.copy_from_slice-2.ensures.after ∙ search take_all)
    (c.copy_from_slice-3.ensures.after
    ∙ ap (λ (s : List ℕ). a.tag ∷ get_or s 0 0 ∷ get_or s 1 0 ∷ []) c.to_be_bytes-length.ensures
    ∙ ap (λ (x : ℕ). a.tag ∷ x ∷ a.len % 256 ∷ []) high)
    refl (omega arith) refl
    ∙ sym (header-written _ _ _ _ _ _ a.session.now a.out.now (omega arith) c.if-out-ne-BLOCK_AT.false (omega arith))
