-- `plus` of a state adds sixteen words, a row at a time. Assumes nothing.
use Rattle.basics.specs.Bytes.{from, build}
use Rattle.symmetric.specs.Words.{sums}
use Rattle.symmetric.proofs.Words.{four_rows}
use Rattle.symmetric.proofs.cipher.Grid.plus.Goals as goal

pub returns : goal.returns
unfolding sums build from
returns c = four_rows c.plus.ensures c.plus-2.ensures c.plus-3.ensures c.plus-4.ensures
