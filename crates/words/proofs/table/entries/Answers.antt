-- `entries`: the whole table passes the test, which is computed here, once.
use Rattle.std.proofs.Common.{refl}
use Rattle.words.proofs.Entries.{right, word_table_tested}
use Rattle.words.proofs.TwoWays.{both_words, joined}
use Rattle.words.proofs.table.entries.Goals as goal

pub returns : goal.returns
unfolding right both_words joined
returns c = word_table_tested _ tt refl
