-- `plus` of a row adds word by word, by computation. Assumes nothing.
use Rattle.std.proofs.Common.{refl}
use Rattle.basics.specs.Bytes.{from, build}
use Rattle.symmetric.specs.Words.{sums}
use Rattle.symmetric.proofs.cipher.Row.plus.Goals as goal

pub returns : goal.returns
unfolding sums build from
returns c = refl
