-- `started`: the sixteen words of section 2.3, row by row. Assumes nothing.
use Rattle.std.proofs.Common.{refl, ◌∙◌}
use Rattle.symmetric.specs.ChaCha.{start}
use Rattle.symmetric.proofs.Words.{four, four_rows}
use Rattle.symmetric.proofs.cipher.Grid.started.Goals as goal

pub returns : goal.returns
unfolding start
returns c =
    four_rows c.of-a.ensures c.at-b.ensures c.at-c.ensures
    (c.of-d.ensures ∙ four refl c.word_at-first.ensures c.word_at-second.ensures c.word_at-third.ensures)
