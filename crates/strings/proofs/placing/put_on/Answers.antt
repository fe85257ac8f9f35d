use Rattle.std.proofs.Common.{◌≡◌, ◌<◌, ◌+◌, ℕ, ap, ◌∙◌, length, get_or, set, get_or-set_other, get_or-set_same, below_more, arith}
use Rattle.strings.proofs.placing.put_on.Goals as goal

pub overflow_add-places : goal.overflow_add-places
overflow_add-places c = omega (arith, c.loop-p.invariant.1 c.loop-p.p (omega arith), c.requires.small c.loop-p.p (omega arith))

pub loop-p-preserved : goal.loop-p-preserved
loop-p-preserved c =
    let a = c.args in
    let p = c.loop-p.p in
    let now = c.loop-p.places in
    let v : ℕ = get_or now p 0 + a.by in
    let lt : a.at + p < length now = omega arith in (
      below_more (λ (q : ℕ). get_or (set now (a.at + p) v) (a.at + q) 0 ≡ get_or a.places.now q 0 + a.by) p
          (λ q hq. get_or-set_other now (a.at + p) (a.at + q) v 0 (λ e. omega arith) ∙ c.loop-p.invariant.0 q hq)
          (get_or-set_same now (a.at + p) v 0 lt ∙ ap (λ (x : ℕ). x + a.by) (c.loop-p.invariant.1 p (omega arith))),
      λ q hq. get_or-set_other now (a.at + p) q v 0 (λ e. omega arith) ∙ c.loop-p.invariant.1 q hq,
      λ q hq. get_or-set_other now (a.at + p) q v 0 (λ e. omega arith) ∙ c.loop-p.invariant.2 q hq,
    )

pub returns : goal.returns
returns c = record { put = λ q hq. c.loop-p.invariant.0 q (omega arith); before = c.loop-p.invariant.1; after = c.loop-p.invariant.2 }
