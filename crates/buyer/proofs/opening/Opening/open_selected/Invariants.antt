-- `open_selected`: the rows before j are opened.
use Rattle.std.proofs.Common.{◌*◌}
use Rattle.basics.proofs.Fill.{Filled}
use Rattle.buyer.proofs.Opened.{opened_at}
use Rattle.buyer.proofs.opening.Opening.open_selected.Given as goal

abbrev pub invariant-loop-j : goal.invariant-loop-j
invariant-loop-j l = Filled (opened_at l.self.session.now l.w l.l l.self.kept.now l.initial.strings) (l.j * l.l) l.initial.strings l.strings
