-- `eight_bytes` holds the bytes of the columns from e on.
use Rattle.std.proofs.Common.{◌≡◌}
use Rattle.columns.proofs.Turned.{bytes_from}
use Rattle.columns.proofs.rows.eight_bytes.Given as goal

abbrev pub invariant-loop-e : goal.invariant-loop-e
invariant-loop-e l = l.w ≡ bytes_from l.c l.eight l.byte l.e
