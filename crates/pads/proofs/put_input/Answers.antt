-- `put_input` meets its contract: two copies and an xor over zeros, one after the other, into parts of 48 bytes. Assumes nothing.
use Rattle.std.proofs.Common.{◌∙◌, ap, drop, arith, rules}
use Rattle.pads.proofs.Pads.{number_bytes, input_parts}
use Rattle.pads.proofs.put_input.Goals as goal

pub returns : goal.returns
returns c =
    input_parts c.args.j c.copy_from_slice.ensures.after (c.copy_from_slice-2.ensures.after ∙ number_bytes c.args.j (omega arith) (search rules))
    (ap (drop 12) c.requires.1) (omega arith) c.args.row.now c.requires.0 c.xor_into.ensures
