use Rattle.std.proofs.Common.{◌≡◌, ℕ, ◌*◌, ◌+◌, ◌-◌, ◌/◌, ◌^◌, ◌<◌, ◌∙◌, get_or, sym, ap, arith}
use mathlib.Core.Path.{ap₂}
use lib.Dec.{leb}
use Rattle.basics.specs.Padding.{col_bytes}
use Rattle.basics.proofs.Padding.{padded-shift}
use Rattle.basics.proofs.is_padded.Goals as goal

-- the last byte tells of the padding
pub returns : goal.returns
returns c =
    let a = c.args in
    let last : ℕ → ℕ = λ n. get_or a.set.now (a.i * n + (n - 1)) 0 in
    let read : c.from-last.result ≡ last a.c = c.from-last.ensures ∙ c.byte_or_zero.ensures in
    let small : last (col_bytes a.rows) < 256 = omega (arith, c.type_inv.set (a.i * col_bytes a.rows + (col_bytes a.rows - 1))) in
    ap₂ (λ (x n : ℕ). leb 1 (x / 2 ^ (a.rows - (n - 1) * 8))) (read ∙ ap last c.requires.2) c.requires.2
    ∙ sym (padded-shift a.rows a.set.now a.i (omega arith) small)
