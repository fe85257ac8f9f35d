-- `select_rows`: the rows so far have their strings, which end at a; the next row begins at `at`.
use Rattle.std.proofs.Common.{◌≡◌, ◌*◌}
use Rattle.basics.proofs.Fill.{Filled}
use Rattle.strings.proofs.Selected.{selected_at}
use Rattle.strings.proofs.select_rows.Given as goal

abbrev pub invariant-loop-r : goal.invariant-loop-r
invariant-loop-r l =
    Filled (selected_at l.shape.strings l.shape.bytes l.selections l.strings) l.a l.fn.out l.out
    × (l.a ≡ l.r-index * l.shape.bytes)
    × (l.at ≡ l.r-index * (l.shape.strings * l.shape.bytes))
