-- Each row has q's bytes below g; the workspace keeps its length.
use Rattle.std.proofs.Common.{◌≡◌, length}
use Rattle.words.specs.Code.{code_of}
use Rattle.columns.proofs.Gathered.{Rowed}
use Rattle.supplier.proofs.Taken.{rows_q}
use Rattle.supplier.proofs.lent.Answering.take_rows.Given as goal

abbrev pub invariant-loop-g : goal.invariant-loop-g
invariant-loop-g l =
    let a = l.self in
    let C = code_of a.shape.mode in
    (Rowed C.width l.g (rows_q C a.seeded a.shape.rows a.session.now a.secret.now l.block a.taken.now) l.initial.q l.q) × (length l.work ≡ 1024)
