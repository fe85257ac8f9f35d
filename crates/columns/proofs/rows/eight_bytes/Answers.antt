-- `eight_bytes` meets its contract: each turn takes the byte of the column before. Assumes nothing.
use Rattle.std.proofs.Common.{◌≡◌, ◌*◌, ◌+◌, ◌<◌, ◌^◌, ℕ, sym, ap, ◌∙◌, arith}
use Rattle.columns.proofs.Turned.{bytes_from, bytes_from_none, bytes_from_more, bytes_from_end, bytes_from_small}
use Rattle.columns.proofs.rows.eight_bytes.Goals as goal

pub loop-e-init : goal.loop-e-init
loop-e-init c = sym (bytes_from_none c.args.c c.args.eight.now c.args.byte)

pub overflow_mul-w : goal.overflow_mul-w
overflow_mul-w c =
    let a = c.args in
    let small : c.loop-e.w < 2 ^ 56 = rw c.loop-e.invariant (bytes_from_small a.c a.eight.now a.byte c.loop-e.e (omega arith)) in omega arith

pub overflow_add-w : goal.overflow_add-w
overflow_add-w c =
    let a = c.args in
    let small : c.loop-e.w < 2 ^ 56 = rw c.loop-e.invariant (bytes_from_small a.c a.eight.now a.byte c.loop-e.e (omega arith)) in omega arith

pub loop-e-preserved : goal.loop-e-preserved
loop-e-preserved c =
    let a = c.args in
    ap (λ (x : ℕ). x * 256 + c.from.result) c.loop-e.invariant
    ∙ sym (bytes_from_more a.c a.eight.now a.byte c.loop-e.e _ (omega arith) (omega arith) c.from.ensures (omega arith))

pub returns : goal.returns
returns c =
    let a = c.args in
    let z : c.loop-e.e ≡ 0 = omega arith in
    c.loop-e.invariant ∙ ap (bytes_from a.c a.eight.now a.byte) z ∙ bytes_from_end a.c a.eight.now a.byte
