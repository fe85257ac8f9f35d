use Rattle.std.proofs.Common.{arith}
use Rattle.basics.specs.Padding.{padded}
use Rattle.basics.proofs.First.{first_at_le}
use Rattle.basics.proofs.Verdicts.{at_first_found}
use Rattle.basics.proofs.refuse_padded.Goals as goal

pub overflow_add-from : goal.overflow_add-from
overflow_add-from c = let a = c.args in omega (arith, c.first_padded-column.ensures, first_at_le a.columns (padded a.rows a.set.now))

pub returns : goal.returns
returns c = at_first_found _ _ _ c.first_padded-column.ensures c.from-k.ensures c.from.ensures c.refuse_unless.ensures
