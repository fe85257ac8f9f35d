-- `first_large`: no row before j has a selection of n or more.
use Rattle.std.proofs.Common.{◌-◌}
use Rattle.basics.proofs.First.{Passed}
use Rattle.buyer.specs.Selections.{too_large}
use Rattle.buyer.proofs.judging.first_large.Given as goal

abbrev pub invariant-loop-j : goal.invariant-loop-j
invariant-loop-j l = Passed (too_large l.n l.selections) l.j l.m

abbrev pub decreases-loop-j : goal.decreases-loop-j
decreases-loop-j l = l.m - l.j
