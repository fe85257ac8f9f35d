use Rattle.std.proofs.Common.{ℕ, ◌≡◌, sym, ap, ◌∙◌, arith}
use Rattle.basics.specs.Padding.{padded}
use Rattle.basics.proofs.First.{first_at_is, passed_here, passed_end}
use Rattle.basics.proofs.Padding.{padded_empty}
use Rattle.basics.proofs.first_padded.Goals as goal

-- without rows there is no padding
pub returns-then-m-eq0 : goal.returns-then-m-eq0
returns-then-m-eq0 c =
    let a = c.args in
    let none : a.rows ≡ 0 = omega arith in
    omega arith
    ∙ sym
    (first_at_is a.columns (padded a.rows a.set.now) a.columns (omega arith)
    (λ i h. ap (λ (m : ℕ). padded m a.set.now i) none ∙ padded_empty a.set.now i) (λ h. absurd (omega arith)))

pub returns-then-is_padded : goal.returns-then-is_padded
returns-then-is_padded c =
    let a = c.args in
    passed_here c.loop-i.invariant
    (ap (λ (m : ℕ). padded m a.set.now c.loop-i.i) (sym c.from-m.ensures) ∙ sym c.is_padded.ensures ∙ c.if-is_padded.true)

pub returns : goal.returns
returns c = omega arith ∙ passed_end c.loop-i.invariant (omega arith)
