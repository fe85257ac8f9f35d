-- The strings at the places below r are masked in every row, and the others are copies.
use Rattle.supplier.proofs.Masked.{F, Masked}
use Rattle.supplier.proofs.lent.Answering.mask_strings.Given as goal

abbrev pub invariant-loop-r : goal.invariant-loop-r
invariant-loop-r l =
    let a = l.self in
    let s = a.shape in
    Masked (F s.mode s.rows s.places s.bytes a.session.now a.secret.now l.rows a.strings.now) s.rows s.places s.bytes l.r a.strings.now l.out
