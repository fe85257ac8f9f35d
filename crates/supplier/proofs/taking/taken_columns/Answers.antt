-- `taken_columns` meets its contract: over zeros the set's columns stand alone. Assumes nothing.
use Rattle.std.proofs.Common.{sym, ◌∙◌}
use lib.ListN.{length, replicate, length-replicate, get_or-replicate}
use Rattle.basics.proofs.Bytes.{build_is}
use Rattle.supplier.proofs.Taken.{zeros-added}
use Rattle.supplier.proofs.taking.taken_columns.Goals as goal

pub returns : goal.returns
returns c =
    let n = length c.args.eight.now in
    zeros-added c.args.seeded c.args.rows c.args.session.now c.args.taken.now _ c.args.eight.now
    (c.fill.ensures.after (λ y e. e) ∙ sym (build_is n (λ p. 0) (replicate n 0) (length-replicate n 0) (λ p h. sym (get_or-replicate n p 0 0 h))))
    c.add_set.ensures c.requires
