-- `judge_taken` meets its contract: each branch is a case of the definition. Assumes nothing.
use Rattle.std.proofs.Common.{ℕ, refl, ap, ◌∙◌}
use Rattle.basics.specs.Padding.{padded}
use Rattle.basics.specs.Verdicts.{at_first}
use Rattle.basics.proofs.Choice.{pick_passed, pick_failed}
use Rattle.supplier.specs.Answer.{taken_padding}
use Rattle.supplier.proofs.lent.Answering.judge_taken.Goals as goal

pub returns-then-self : goal.returns-then-self
unfolding taken_padding
returns-then-self c = pick_passed _ c.if-self.true refl

pub returns : goal.returns
unfolding taken_padding
returns c =
    let a = c.args.self.now in
    pick_failed _ c.if-self.false
    (c.check_clear.ensures ∙ ap (λ (k : ℕ). at_first k (padded a.shape.rows a.taken.now) 9 0) c.columns_of-columns.ensures.is)
