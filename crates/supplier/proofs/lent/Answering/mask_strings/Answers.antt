-- `mask_strings` meets its contract: the copies are masked place by place. Assumes nothing.
use Rattle.std.proofs.Common.{sym, ◌∙◌, arith}
use Rattle.basics.proofs.Bytes.{over_whole}
use Rattle.supplier.proofs.Masked.{masked_agrees, masked_none, masked_more, masked_end, masked_all}
use Rattle.supplier.proofs.lent.Answering.mask_strings.Goals as goal

pub loop-r-init : goal.loop-r-init
loop-r-init c = masked_none _ _ _ _ (c.copy.ensures ∙ over_whole _ _ (sym c.requires.room))

pub loop-r-preserved : goal.loop-r-preserved
loop-r-preserved c =
    let a = c.args.self.now in
    let s = a.shape in
    masked_more c.loop-r.invariant c.mask_place.ensures (omega arith)
    (λ i b hi hb e.
    masked_agrees s.mode s.rows s.places s.bytes a.session.now a.secret.now c.args.rows.now c.loop-r.out a.strings.now c.loop-r.r i b (omega arith) hi hb e)

pub returns : goal.returns
returns c =
    let a = c.args.self.now in
    let s = a.shape in
    masked_end c.loop-r.invariant (omega arith) c.requires.fit.strings_long
    ∙ masked_all s.mode s.rows s.places s.bytes a.session.now a.secret.now c.args.rows.now a.strings.now
