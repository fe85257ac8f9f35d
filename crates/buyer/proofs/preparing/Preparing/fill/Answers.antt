-- `fill` meets its contract: the kept rows are gathered before the first set's columns are added. Assumes nothing.
use Rattle.std.proofs.Common.{List, ℕ, ap, ◌∙◌}
use Rattle.basics.specs.Bytes.{◌⊕◌}
use Rattle.wire.specs.Shapes.{k_of}
use Rattle.columns.specs.Sets.{columns_of}
use Rattle.buyer.proofs.Prepared.{rows-kept, block_sent}
use Rattle.buyer.proofs.preparing.Preparing.fill.Goals as goal

pub returns-clause-sent : goal.returns-clause-sent
returns-clause-sent c =
    let s = c.args.self in
    let r = c.requires in
    c.add_columns.ensures
    ∙ ap (λ (x : List ℕ). x ⊕ columns_of s.seeded (k_of s.shape.mode) s.shape.rows s.session.now s.first.now) c.put_second.ensures
    ∙ block_sent s.seeded s.shape.mode s.shape.rows s.session.now s.second.now s.selections.now c.args.block.now r.second_fits s.first.now r.first_fits

pub returns-clause-rows : goal.returns-clause-rows
returns-clause-rows c =
    let s = c.args.self in
    let r = c.requires in
    rows-kept s.seeded s.shape.mode s.shape.rows s.session.now s.second.now s.selections.now c.args.block.now r.second_fits _ c.args.kept.now
    c.put_second.ensures r.kept_long c.gather_rows.ensures
