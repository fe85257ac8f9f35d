-- `Seeded::add` meets its contract: the workspace agrees with the column as far as the part reaches. Assumes nothing.
use Rattle.std.proofs.Common.{◌∙◌, arith}
use Rattle.basics.proofs.Bytes.{xor_agree}
use Rattle.columns.proofs.adding.Seeded.add.Goals as goal

pub returns : goal.returns
returns c = c.xor_into.ensures ∙ xor_agree c.args.out.now _ _ (λ p h. c.expand-work.ensures p (omega arith))
