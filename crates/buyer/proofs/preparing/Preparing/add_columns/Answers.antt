-- `add_columns` meets its contract: the set fits, and so its columns are added. Assumes nothing.
use Rattle.std.proofs.Common.{refl}
use Rattle.buyer.proofs.Prepared.{set-added}
use Rattle.buyer.proofs.preparing.Preparing.add_columns.Goals as goal

pub returns : goal.returns
returns c =
    let s = c.args.self in
    set-added s.seeded s.shape.mode s.shape.rows s.session.now c.args.set.now c.args.block.now c.requires c.columns_of-k.result _ c.columns_of-k.ensures.is refl
    c.add_set.ensures
