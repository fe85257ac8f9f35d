-- The first j rows have their string at the place.
use Rattle.supplier.specs.Masking.{Placed}
use Rattle.supplier.proofs.Masked.{F}
use Rattle.supplier.proofs.lent.Answering.mask_place.Given as goal

abbrev pub invariant-loop-j : goal.invariant-loop-j
invariant-loop-j l =
    let a = l.self in
    let s = a.shape in
    Placed (F s.mode s.rows s.places s.bytes a.session.now a.secret.now l.rows l.initial.strings) s.places s.bytes l.r l.j l.initial.strings l.strings
