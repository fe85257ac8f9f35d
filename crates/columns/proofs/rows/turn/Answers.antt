-- `turn`: three swaps turn eight bytes.
use mathlib.Core.Path.{ap, ◌∙◌}
use native.Mathlib.Omega.{arith}
use Rattle.columns.specs.Turned.{swapped}
use Rattle.columns.proofs.Turned.{swapped-turned}
use Rattle.columns.proofs.rows.turn.Goals as goal

pub returns : goal.returns
returns c =
    c.swap.ensures
    ∙ ap (swapped 0x00000000f0f0f0f0 28) (c.swap-pairs.ensures ∙ ap (swapped 0x0000cccc0000cccc 14) c.swap-singles.ensures)
    ∙ swapped-turned c.args.w (omega arith)
