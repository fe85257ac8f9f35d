-- `open_selected` meets its contract: row j's string is opened in its part of the strings. Assumes nothing.
use Rattle.std.proofs.Common.{◌≡◌, ℕ, ◌+◌, ◌-◌, ◌*◌, ◌≤◌, length, take, drop, sym, ap, ap₂, ◌∙◌, arith}
use native.Mathlib.Nat.{zero-mul}
use Rattle.basics.proofs.Bytes.{line-within}
use Rattle.basics.proofs.Fill.{Filled, filled_none, filled_drop, filled_end, lent_long}
use Rattle.pads.proofs.Pads.{pad_masked_fit}
use Rattle.buyer.proofs.Opened.{opened_at, row_opened, row_more, rows-opened}
use Rattle.buyer.proofs.opening.Opening.open_selected.Goals as goal

pub loop-j-init : goal.loop-j-init
loop-j-init c = rw (zero-mul c.from-l.result) (filled_none _ _)

pub loop-j-preserved : goal.loop-j-preserved
loop-j-preserved c =
    let s = c.args.self in
    let kept = s.kept.now in
    let old = c.args.strings.now in
    let i = c.from-i.result in
    let l = c.from-l.result in
    let w = c.row_bytes-w.result in
    let same : i ≡ c.from.result = c.from-i.ensures ∙ sym c.from.ensures in
    let string_in : i * l + l ≤ length old
    = omega (arith, line-within s.shape.rows l i (omega (arith, c.from-i.ensures)), ap (λ (x : ℕ). s.shape.rows * x) c.from-l.ensures, c.requires.strings_long) in
    let kept_in : i * w + w ≤ length kept
    = omega (arith, line-within s.shape.rows w i (omega (arith, c.from-i.ensures)), ap (λ (x : ℕ). s.shape.rows * x) c.row_bytes-w.ensures.is, c.requires.kept_long) in
    let row = lent_long kept (i * w) w kept_in in
    let string = lent_long c.loop-j.strings (i * l) l (omega (arith, string_in, c.loop-j.invariant.long)) in
    let row-size : i * w + w - i * w ≡ w = omega arith in
    let size : i * l + l - i * l ≡ l = omega arith in
    let begun : Filled (opened_at s.session.now w l kept old) (i * l) old c.loop-j.strings = rw c.from-i.ensures c.loop-j.invariant in
    row_more l c.loop-j.j c.from-i.ensures c.loop-j.invariant string_in
    (c.mask.ensures
    ∙ pad_masked_fit s.session.now c.from.result _ _ c.requires.session_long (omega (arith, row, c.row_bytes-w.ensures.high))
    (omega (arith, string, c.from-l.ensures, c.requires.bytes_few))
    ∙ row_opened s.session.now w l kept old c.from.result (i * l) (ap (λ (x : ℕ). x * l) same) string string
    (ap₂ take size (filled_drop begun))
    (ap₂ (λ (x y : ℕ). take x (drop y kept)) row-size (ap (λ (x : ℕ). x * w) same)))

pub returns : goal.returns
returns c =
    let s = c.args.self in
    let all : c.loop-j.j ≡ s.shape.rows = omega arith in
    let z = rw c.from-l.ensures at c.loop-j.invariant in
    rows-opened s.shape.mode s.shape.rows s.shape.bytes c.row_bytes-w.result s.session.now s.kept.now c.args.strings.now c.row_bytes-w.ensures.is
    (filled_end z c.requires.strings_long (omega (arith, ap (λ (x : ℕ). x * s.shape.bytes) all)))
