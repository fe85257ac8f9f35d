-- `put_header` meets its contract: the part that is lent has the header's length, and so the header is written. Assumes nothing.
use Rattle.std.proofs.Common.{List, ℕ, ◌++◌, ap, ◌∙◌, arith, drop, length-take}
use Rattle.wire.proofs.Message.{header-written}
use Rattle.buyer.proofs.preparing.Preparing.put_header.Goals as goal

pub returns : goal.returns
returns c =
    let s = c.args.self in
    ap (λ (x : List ℕ). x ++ drop 27 c.args.message.now)
    (c.write_header.ensures
    ∙ header-written 3 _ s.shape.mode s.shape.rows s.shape.places s.shape.bytes s.session.now _ c.requires.session_long (simp length-take (omega arith)) (omega arith))
