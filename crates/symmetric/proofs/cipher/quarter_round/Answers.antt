-- `quarter_round`: the four lines of section 2.1, each letter made of those before it. Assumes nothing.
use Rattle.std.proofs.Common.{◌∙◌}
use Rattle.symmetric.specs.ChaCha.{rotl, quarter}
use Rattle.symmetric.proofs.cipher.quarter_round.Goals as goal

pub returns : goal.returns
unfolding quarter rotl
returns c = c.of.ensures ∙ rw (c.rotate_left-b2.ensures, c.rotate_left-d2.ensures, c.rotate_left-b1.ensures, c.rotate_left-d1.ensures)
