-- `give_bytes` meets its contract: each turned word has the bytes of its eight rows. Assumes nothing.
use Rattle.std.proofs.Common.{refl, rules}
use Rattle.columns.proofs.Turned.{byte_of-word}
use Rattle.columns.proofs.rows.give_bytes.Goals as goal

pub returns : goal.returns
returns c = c.give_words.ensures _ (λ b w i hb hw hi. byte_of-word _ b c.args.eight.now c.column_bytes-c.ensures refl (search rules) i hi)
