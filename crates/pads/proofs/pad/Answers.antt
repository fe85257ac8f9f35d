-- `pad` meets its contract: the digest of the hashed bytes. Assumes nothing.
use Rattle.std.proofs.Common.{◌+◌, length, length-take, arith}
use Rattle.pads.proofs.Pads.{hash_passed, pad_digest}
use Rattle.pads.proofs.pad.Goals as goal

pub returns : goal.returns
returns c =
    let a = c.args in
    pad_digest a.session.now a.j a.row.now (16 + length a.row.now) _ c.put_input.ensures (hash_passed c.hash.ensures (simp length-take (omega arith)))
