use Rattle.std.proofs.Common.{◌≡◌, ◌≤◌, ◌+◌, ◌-◌, ◌*◌, ℕ, ap, ap₂, length, refl, ◌∙◌, arith}
use lib.ListN.{take, drop}
use native.Mathlib.Nat.{mul_assoc}
use Rattle.basics.proofs.Bytes.{line_next, line-within}
use Rattle.basics.proofs.Fill.{filled_none, filled_part, filled_end}
use Rattle.strings.proofs.Placed.{zeros}
use Rattle.strings.proofs.Selected.{row-selected, rows-selected}
use Rattle.strings.proofs.select_rows.Goals as goal

pub put_places-requires-clause-zeros : goal.put_places-requires-clause-zeros
put_places-requires-clause-zeros c = zeros 256 c.front-front.result

pub loop-r-init : goal.loop-r-init
loop-r-init c = (filled_none _ _, omega arith, omega arith)

pub slice_bounds-select_row-end-in-loop-r : goal.slice_bounds-select_row-end-in-loop-r
slice_bounds-select_row-end-in-loop-r c =
    let s = c.args.shape in
    let m : ℕ = length c.args.selections.now in
    omega
    (arith, line-within m (s.strings * s.bytes) c.loop-r.r-index (omega arith), mul_assoc m s.strings s.bytes, c.requires.strings_long, c.loop-r.invariant.2)

pub slice_bounds-select_row-end-in-loop-r-3 : goal.slice_bounds-select_row-end-in-loop-r-3
slice_bounds-select_row-end-in-loop-r-3 c =
    omega (arith, line-within (length c.args.selections.now) c.args.shape.bytes c.loop-r.r-index (omega arith), c.requires.old_long, c.loop-r.invariant.1)

pub loop-r-preserved : goal.loop-r-preserved
loop-r-preserved c =
    let l = c.args.shape.bytes in
    let n = c.args.shape.strings in
    let x = c.loop-r in
    let inside : x.a + l ≤ length c.args.out.now = omega (arith, line-within (length c.args.selections.now) l x.r-index (omega arith), c.requires.old_long) in
    let line : take (x.at + c.row-row.result - x.at) (drop x.at c.args.strings.now) ≡ take (n * l) (drop (x.r-index * (n * l)) c.args.strings.now)
    = ap₂ (λ (k a : ℕ). take k (drop a c.args.strings.now)) (omega arith) x.invariant.2 in (
      filled_part l x.invariant.0 refl inside
          (c.select_row.ensures ∙ row-selected n l c.args.selections.now c.args.strings.now x.r-index x.a x.invariant.1 line),
      omega (arith, line_next l x.r-index),
      omega (arith, line_next (n * l) x.r-index),
    )

pub returns : goal.returns
returns c =
    let s = c.args.shape in
    let m : ℕ = length c.args.selections.now in
    let all : c.loop-r.r-index ≡ m = omega arith in
    rows-selected s.strings s.bytes c.args.selections.now c.args.strings.now m
    (filled_end c.loop-r.invariant.0 c.requires.old_long (omega (arith, ap (λ (x : ℕ). x * s.bytes) all)))
