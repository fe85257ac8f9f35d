-- `give_words` gives the first 8 b rows, or all where they are fewer, their byte g, and changes no other byte; the next rows begin at a.
use Rattle.std.proofs.Common.{ℕ, ◌≡◌, ◌*◌, min}
use Rattle.basics.specs.Padding.{col_bytes}
use Rattle.columns.specs.Gathered.{GivesWords}
use Rattle.columns.proofs.Gathered.{Given}
use Rattle.columns.proofs.rows.give_words.Given as goal

abbrev pub invariant-loop-b : goal.invariant-loop-b
invariant-loop-b g l = record {
  begins : l.a ≡ l.b * 8 * l.width;
  so_far : (f : ℕ → ℕ) → GivesWords (goal.F-post g l.word) (col_bytes l.rows) f → Given f l.width l.g (min (l.b * 8) l.rows) l.fn.out l.out;
}
