use Rattle.std.proofs.Common.{◌≡◌, ◌-◌, ◌∙◌, length, take, drop, sym, arith}
use Rattle.std.proofs.Math.Seq.{take_all}
use Rattle.std.proofs.lemmas.List.{length-drop}
use Rattle.wire.specs.Received.{padding_verdict}
use Rattle.wire.proofs.Received.{padding_none}
use borrow.Author.Tests.{eq-eqb, ne_eqb}
use Rattle.wire.proofs.receiving.check_padding.Goals as goal

pub returns-then-message-lt-BLOCK_AT : goal.returns-then-message-lt-BLOCK_AT
returns-then-message-lt-BLOCK_AT c = sym (padding_none _ _ _ _ c.if-message-lt-BLOCK_AT.true)

pub returns-then-tag-ne-TAG_COLUMNS : goal.returns-then-tag-ne-TAG_COLUMNS
unfolding padding_verdict
returns-then-tag-ne-TAG_COLUMNS c = simp (ne_eqb c.args.tag 3 c.if-tag-ne-TAG_COLUMNS.true)

pub returns : goal.returns
unfolding padding_verdict
returns c =
    let message = c.args.message.now in
    let whole : take (length message - 27) (drop 27 message) ≡ drop 27 message = take_all (length message - 27) (drop 27 message) (simp length-drop (omega arith)) in
    simp (eq-eqb c.args.tag 3 c.if-tag-ne-TAG_COLUMNS.false) (c.check_clear.ensures ∙ rw (c.columns_of.ensures.is, whole))
