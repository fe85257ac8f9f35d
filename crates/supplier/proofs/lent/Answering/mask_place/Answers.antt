-- `mask_place` meets its contract: the string of each row in turn, where it stands. Assumes nothing.
use Rattle.std.proofs.Common.{◌≡◌, ℕ, ◌+◌, ◌-◌, ◌*◌, ◌<◌, take, drop, ap, ap₂, ◌∙◌, arith}
use Rattle.words.specs.Code.{code_of}
use Rattle.words.proofs.Words.{code_of_width}
use Rattle.supplier.proofs.Masked.{string_within, hashed_is, string_masked, placed_next, placed_more}
use Rattle.supplier.proofs.lent.Answering.mask_place.Goals as goal

pub slice_bounds-mask_string-end-in-loop-j : goal.slice_bounds-mask_string-end-in-loop-j
slice_bounds-mask_string-end-in-loop-j c =
    let s = c.args.self.now.shape in
    let at = (c.loop-j.j * c.from-n.result + c.from-place.result) * c.from-l.result in
    let is : at ≡ (c.loop-j.j * s.places + c.args.r) * s.bytes = rw (c.from-n.ensures, c.from-place.ensures, c.from-l.ensures) in
    omega (arith, string_within s.rows s.places s.bytes c.loop-j.j c.args.r (omega arith) c.requires.inside)

pub loop-j-preserved : goal.loop-j-preserved
loop-j-preserved c =
    let a = c.args.self.now in
    let s = a.shape in
    let f = c.requires.fit in
    let z = c.loop-j.invariant in
    let j = c.loop-j.j in
    let w = c.row_bytes-w.result in
    let l = c.from-l.result in
    let at = (j * c.from-n.result + c.from-place.result) * l in
    let is : at ≡ (j * s.places + c.args.r) * s.bytes = rw (c.from-n.ensures, c.from-place.ensures, c.from-l.ensures) in
    let width : w ≡ (code_of s.mode).width = c.row_bytes-w.ensures.is in
    let h : j < s.rows = omega arith in
    let size : at + l - at ≡ s.bytes = omega arith in
    let across : j * w + w - j * w ≡ w = omega arith in
    placed_more z c.requires.inside is (ap (λ (x : ℕ). at + x) c.from-l.ensures)
    (omega (arith, string_within s.rows s.places s.bytes j c.args.r h c.requires.inside, f.strings_long))
    (c.mask_string.ensures
    ∙ string_masked s.mode s.rows s.places s.bytes a.session.now a.secret.now c.args.rows.now c.args.strings.now h c.requires.inside f.strings_long is
    (ap (λ (x : ℕ). take x (drop at c.loop-j.strings)) size ∙ placed_next z c.requires.inside is)
    (hashed_is (code_of s.mode) a.secret.now c.args.rows.now j c.args.r s.rows h f.rows_long (code_of_width s.mode)
    (ap₂ (λ (x y : ℕ). take x (drop y c.args.rows.now)) (across ∙ width) (ap (λ (x : ℕ). j * x) width))
    c.masked_word-word.ensures))
