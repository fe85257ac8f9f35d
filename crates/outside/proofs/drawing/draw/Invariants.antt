-- `draw`: the state has gone on by one step a byte, and the bytes so far are drawn.
use Rattle.std.proofs.Common.{◌≡◌, ◌+◌, ◌%◌}
use Rattle.basics.proofs.Fill.{Filled}
use Rattle.outside.specs.Drawn.{state_after}
use Rattle.outside.proofs.drawing.draw.Given as goal

abbrev pub invariant-loop-byte : goal.invariant-loop-byte
invariant-loop-byte l = (l.state ≡ state_after l.fn.x l.byte-index) × Filled (λ q. state_after l.fn.x (q + 1) % 256) l.byte-index l.fn.out l.out
