-- `write_masked` meets its contract: the header over the first 27 bytes, the masked strings over the others. Assumes nothing.
use Rattle.std.proofs.Common.{◌≡◌, ℕ, List, ◌++◌, length, take, drop, sym, ap, ap₂, ◌∙◌, arith}
use lib.ListN.{length-take, length-drop}
use Rattle.wire.specs.Message.{header, message_of}
use Rattle.wire.proofs.Message.{length-header, header-written, two_parts}
use Rattle.supplier.specs.Calls.{masked_of}
use Rattle.supplier.proofs.Masked.{length_masked}
use Rattle.supplier.proofs.lent.Answering.write_masked.Goals as goal

pub returns : goal.returns
unfolding message_of
returns c =
    let a = c.args.self.now in
    let s = a.shape in
    let block : List ℕ = masked_of a c.args.rows.now a.strings.now in
    let long : length block ≡ length a.strings.now
    = length_masked s.mode s.rows s.places s.bytes a.session.now a.secret.now c.args.rows.now a.strings.now ∙ sym c.requires.fit.strings_long in
    let head : c.write_header.new.out ≡ header 4 (length block) s.mode s.rows s.places s.bytes a.session.now
    = c.write_header.ensures
    ∙ header-written 4 (length a.strings.now) s.mode s.rows s.places s.bytes a.session.now (take 27 (drop 0 c.args.message.now)) c.requires.fit.session_long
    (simp (length-take, length-drop) (omega (arith, c.requires.room))) c.requires.few
    ∙ ap (λ (n : ℕ). header 4 n s.mode s.rows s.places s.bytes a.session.now) (sym long) in
    two_parts c.args.message.now c.write_header.new.out c.mask_strings.new.out
    (ap length head ∙ length-header 4 (length block) s.mode s.rows s.places s.bytes a.session.now c.requires.fit.session_long)
    (ap length c.mask_strings.ensures ∙ omega (arith, long, c.requires.room)) (omega (arith, c.requires.room))
    ∙ ap₂ (λ (x y : List ℕ). x ++ y) head c.mask_strings.ensures
