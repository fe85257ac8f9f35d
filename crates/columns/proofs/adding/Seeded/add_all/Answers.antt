-- `Seeded::add_all` meets its contract: one part more has its column. Assumes nothing.
use Rattle.std.proofs.Common.{◌≡◌, ◌+◌, ◌*◌, ◌≤◌, ◌<◌, [], length, get_or, refl, ◌∙◌, arith}
use Rattle.basics.specs.Bytes.{line}
use Rattle.basics.specs.Padding.{col_bytes}
use Rattle.basics.proofs.Fill.{filled_none, filled_part, filled_end}
use Rattle.basics.proofs.Bytes.{line_next, line-within}
use Rattle.columns.proofs.Sets.{seed-at, added_part, added_all}
use Rattle.columns.proofs.adding.Seeded.add_all.Goals as goal

pub loop-i-init : goal.loop-i-init
loop-i-init c = let none : 0 * col_bytes c.args.self.now.rows ≡ 0 = omega arith in rw none (filled_none _ c.args.block.now)

pub loop-i-preserved : goal.loop-i-preserved
loop-i-preserved c =
    let s = c.args.self.now in
    let i = c.loop-i.i in
    let n = col_bytes s.rows in
    let inside : i < c.args.count = omega arith in
    let room : i * n + n ≤ length c.args.block.now = omega (arith, line-within c.args.count n i inside) in
    let seed : get_or c.as_chunks.result.0.now i [] ≡ line 32 c.args.set.now i = rw c.as_chunks.ensures.front (seed-at _ i c.args.set.now (omega arith)) in
    rw (c.column_bytes-c.ensures, line_next n i)
    (filled_part n c.loop-i.invariant refl room
    (rw c.column_bytes-c.ensures at c.add.ensures
    ∙ added_part s.rows i (i * n) (i * n + n) s.session.now c.args.set.now c.loop-i.invariant refl refl room seed))

pub returns : goal.returns
returns c =
    let s = c.args.self.now in
    let all : c.loop-i.i ≡ c.args.count = omega arith in
    filled_end (rw all at c.loop-i.invariant) c.requires.1 (omega arith) ∙ added_all c.args.count s.rows s.session.now c.args.set.now c.args.block.now c.requires.1
