-- `marked`: the rest over zeros, then the mark. Assumes nothing.
use Rattle.std.proofs.Common.{List, ℕ, ◌++◌, length, drop, set, replicate, ap, ◌∙◌}
use Rattle.symmetric.proofs.Sha.{marked_is}
use Rattle.symmetric.proofs.message.marked.Goals as goal

pub returns : goal.returns
returns c =
    let s = c.args.rest.now in
    ap (λ (b : List ℕ). set (b ++ drop (length s) (replicate 64 0)) (length s) 128) c.copy_from_slice.ensures.after ∙ marked_is s c.requires
