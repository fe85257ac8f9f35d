-- `eight_times` meets its contract: the code is the definition. Assumes nothing.
use Rattle.std.proofs.Common.{rules}
use Rattle.columns.specs.Turned.{eight_times}
use Rattle.columns.proofs.joining.eight_times.Goals as goal

pub returns : goal.returns
unfolding eight_times
returns c = search rules
