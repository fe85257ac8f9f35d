-- `double_round` is the inner block: columns, then diagonals. Assumes nothing.
use Rattle.std.proofs.Common.{ap, ◌∙◌}
use Rattle.symmetric.specs.ChaCha.{diagonal_round, inner_block}
use Rattle.symmetric.proofs.cipher.Grid.double_round.Goals as goal

pub returns : goal.returns
unfolding inner_block
returns c = c.diagonals.ensures ∙ ap diagonal_round c.columns.ensures
