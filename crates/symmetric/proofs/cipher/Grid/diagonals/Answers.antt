-- `diagonals`: four quarter rounds on words that no two of them share. Assumes nothing.
use Rattle.std.proofs.Common.{◌∙◌}
use Rattle.symmetric.specs.ChaCha.{diagonal_round}
use Rattle.symmetric.proofs.Words.{four_rows}
use Rattle.symmetric.proofs.cipher.Grid.diagonals.Goals as goal

pub returns : goal.returns
unfolding diagonal_round
returns c =
    four_rows c.of.ensures c.of-2.ensures c.of-3.ensures c.of-4.ensures
    ∙ rw (← c.quarter_round-p.ensures, ← c.quarter_round-q.ensures, ← c.quarter_round-u.ensures, ← c.quarter_round-v.ensures)
