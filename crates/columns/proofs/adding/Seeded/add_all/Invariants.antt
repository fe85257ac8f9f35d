-- `Seeded::add_all` has the columns of the first i seeds in the block.
use Rattle.std.proofs.Common.{◌*◌}
use Rattle.basics.specs.Padding.{col_bytes}
use Rattle.basics.proofs.Fill.{Filled}
use Rattle.columns.proofs.Sets.{added}
use Rattle.columns.proofs.adding.Seeded.add_all.Given as goal

abbrev pub invariant-loop-i : goal.invariant-loop-i
invariant-loop-i l = Filled (added l.self.rows l.self.session.now l.set l.fn.block) (l.i * col_bytes l.self.rows) l.fn.block l.block
