-- `first_large` meets its contract. Assumes nothing.
use Rattle.std.proofs.Common.{◌≡◌, ◌∙◌, arith}
use borrow.Author.Tests.{le-leb, lt-leb}
use Rattle.basics.proofs.First.{passed_more, passed_here, passed_end}
use Rattle.buyer.specs.Selections.{too_large}
use Rattle.buyer.proofs.judging.first_large.Goals as goal

pub loop-j-preserved : goal.loop-j-preserved
unfolding too_large
loop-j-preserved c = passed_more c.loop-j.invariant (omega arith) (lt-leb _ _ (omega (arith, c.from.ensures)))

pub returns-then-m-j : goal.returns-then-m-j
returns-then-m-j c =
    let all : c.args.m ≡ c.loop-j.j = omega (arith, c.loop-j.invariant.within) in
    all ∙ passed_end c.loop-j.invariant (omega arith)

pub returns-then-n-from : goal.returns-then-n-from
unfolding too_large
returns-then-n-from c = passed_here c.loop-j.invariant (le-leb _ _ (omega (arith, c.from.ensures)))
