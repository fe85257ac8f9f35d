-- `select_row`: the selected string is left alone in the workspace, brought to its front and copied.
use Rattle.std.proofs.Common.{refl, ◌∙◌, arith}
use native.Mathlib.Nat.{mul-le-mul_right}
use Rattle.strings.proofs.Selected.{front_built}
use Rattle.strings.proofs.select_row.Goals as goal

pub returns : goal.returns
returns c =
    let s = c.args.shape in
    c.copy_from_slice.ensures.after
    ∙ front_built s.bytes s.bytes c.fold.new.work _ refl (omega (arith, mul-le-mul_right s.bytes s.some)) (c.fold.ensures _ c.gather.ensures)
