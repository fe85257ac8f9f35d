-- `give_rows` meets its contract: eight columns more give each row one byte more. Assumes nothing.
use Rattle.std.proofs.Common.{◌≡◌, ◌+◌, ◌-◌, ◌*◌, List, ℕ, take, drop, ap₂, ap, arith}
use Rattle.basics.specs.Padding.{col_bytes}
use Rattle.basics.proofs.Bytes.{length-lines}
use Rattle.columns.specs.Gathered.{gathered}
use Rattle.columns.proofs.Gathered.{rowed_more, rowed_end, gathered-row}
use Rattle.columns.proofs.rows.give_rows.Goals as goal

pub loop-g-preserved : goal.loop-g-preserved
loop-g-preserved c =
    let a = c.args in
    let n = c.loop-g.g * (8 * c.column_bytes-eight.result) in
    let size : n + 8 * c.column_bytes-eight.result - n ≡ 8 * col_bytes a.rows = omega arith in
    let place : n ≡ c.loop-g.g * (8 * col_bytes a.rows) = ap (λ (x : ℕ). c.loop-g.g * (8 * x)) c.column_bytes-eight.ensures in
    let part : List ℕ = take (n + 8 * c.column_bytes-eight.result - n) (drop n a.columns.now) in
    rowed_more a.rows (gathered (col_bytes a.rows) part) c.loop-g.invariant (omega arith) c.requires.1 c.give_bytes.ensures
    (gathered-row a.rows a.width c.loop-g.g a.columns.now part (omega arith) (ap₂ (λ (x y : ℕ). take x (drop y a.columns.now)) size place))

pub returns : goal.returns
returns c = rowed_end c.args.rows c.loop-g.invariant (omega arith) c.requires.1 (length-lines c.args.rows c.args.width _)
