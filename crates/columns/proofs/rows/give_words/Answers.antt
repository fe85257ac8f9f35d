-- `give_words` meets its contract: eight rows more take their byte, or those that are left. Assumes nothing.
use Rattle.std.proofs.Common.{◌≡◌, ◌*◌, ◌+◌, ◌%◌, ◌<◌, ℕ, min, ap₂, arith, length-take, length-drop}
use Rattle.columns.proofs.Gathered.{Given, given_end, eight_next, eight_within, eight_left, eight_more, eight_rest}
use Rattle.columns.proofs.rows.give_words.Goals as goal
use Rattle.columns.proofs.rows.give_words.Goals.{then-b-whole, else-b-whole}

pub slice_bounds-give_word-end : goal.slice_bounds-give_word-end
slice_bounds-give_word-end g c = omega (arith, eight_within c.args.rows c.loop-b.b c.from-w.ensures c.loop-b.invariant.begins (omega arith))

pub give_word-requires-else-b-whole : goal.give_word-requires-else-b-whole
give_word-requires-else-b-whole g c =
    let left = eight_left c.args.rows c.loop-b.b c.from-w.ensures c.loop-b.invariant.begins (omega arith) in
    (omega arith, simp (length-take, length-drop) (omega (arith, left, ap₂ (λ (x y : ℕ). x % 8 * y) c.from-m.ensures c.from-w.ensures)), omega arith, omega arith)

pub loop-b-preserved : goal.loop-b-preserved
loop-b-preserved g c = record {
  begins = eight_next c.loop-b.b c.args.width c.from-w.ensures c.loop-b.invariant.begins;
  so_far = λ f h.
      let a = c.args in
      let b = c.loop-b.b in
      let z = c.loop-b.invariant in
      let here : min (b * 8) a.rows ≡ b * 8 = omega arith in
      let before : Given f a.width a.g (b * 8) a.out.now c.loop-b.out = rw here at (z.so_far f h) in
      let v = λ (i : ℕ) (l : i < 8). h b c.word-v.result i (omega arith) c.word-v.ensures l in
      elim c.if-b-whole.branch [
        | then-b-whole x ↦
            let next : min ((b + 1) * 8) a.rows ≡ (b + 1) * 8 = omega arith in
            rw (x.out-is, next) (eight_more a.rows b c.from-w.ensures z.begins before c.requires.fits.1 c.requires.fits.0 v (omega arith) x.give_word.ensures)
        | else-b-whole x ↦
            let all : min ((b + 1) * 8) a.rows ≡ a.rows = omega arith in
            rw (x.out-is, all)
            (eight_rest a.rows b c.from-w.ensures z.begins before c.requires.fits.1 c.requires.fits.0 v (omega arith) x.give_word-else-b-whole.ensures)
      ];
}

pub returns : goal.returns
returns g c f h =
    let all : min (c.loop-b.b * 8) c.args.rows ≡ c.args.rows = omega arith in
    given_end (rw all at (c.loop-b.invariant.so_far f h)) c.requires.fits.1 c.requires.fits.0
