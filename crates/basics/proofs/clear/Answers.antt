use Rattle.std.proofs.Common.{refl, sym}
use Rattle.basics.proofs.Bytes.{build_is}
use Rattle.basics.proofs.clear.Goals as goal

pub returns : goal.returns
returns c = sym (build_is _ _ _ c.fill.ensures.len (λ p h. sym (c.fill.ensures.clones p 0 h refl)))
