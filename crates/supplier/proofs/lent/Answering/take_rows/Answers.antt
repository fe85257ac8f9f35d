-- `take_rows` meets its contract: eight columns at a time, a byte of each row. Assumes nothing.
use Rattle.std.proofs.Common.{◌≡◌, ℕ, ◌+◌, ◌-◌, ◌*◌, ◌<◌, List, length, get_or, take, drop, refl, sym, ap, ap₂, ◌∙◌, arith}
use lib.ListN.{length-take, length-drop}
use borrow.Rule.Slice.PartMut.{put_mid, same_len_mid}
use Rattle.basics.specs.Padding.{col_bytes}
use Rattle.basics.proofs.Bytes.{line-within}
use Rattle.basics.proofs.Fill.{front_back}
use Rattle.words.specs.Code.{code_of}
use Rattle.construction.proofs.Bytewise.{length-taking}
use Rattle.columns.specs.Gathered.{joined, joined_over}
use Rattle.columns.specs.Sets.{columns_of, entry_bytes}
use Rattle.columns.proofs.Gathered.{rowed_more, rowed_end, EightFit, joined_fits}
use Rattle.columns.proofs.Sets.{length-columns_of}
use Rattle.supplier.proofs.Taken.{taken_at}
use Rattle.supplier.proofs.lent.Answering.take_rows.Goals as goal

-- part g of parts of one length
part : (g : ℕ) (s : List ℕ) {w v : ℕ} → w ≡ v → take (g * w + w - g * w) (drop (g * w) s) ≡ take v (drop (g * v) s)
part g s {w} {v} e = ap₂ (λ (x y : ℕ). take x (drop y s)) (omega arith) (ap (λ (x : ℕ). g * x) e)

pub loop-g-preserved : goal.loop-g-preserved
loop-g-preserved c =
    let a = c.args.self.now in
    let m = a.shape.rows in
    let f = c.requires in
    let C = code_of a.shape.mode in
    let g = c.loop-g.g in
    let eight = c.taken_columns.new.eight in
    let size = 8 * c.column_bytes-columns.result in
    let size_is : size ≡ 8 * col_bytes m = ap (λ (x : ℕ). 8 * x) c.column_bytes-columns.ensures in
    let entry_is : 8 * c.entry_bytes-entries.result ≡ 8 * entry_bytes a.seeded m = ap (λ (x : ℕ). 8 * x) c.entry_bytes-entries.ensures.0 in
    let width : c.row_bytes-width.result ≡ C.width = c.row_bytes-width.ensures.is in
    let h : g < C.width = omega arith in
    let keep : ℕ = 255 - get_or a.secret.now g 0 in
    let lent : List ℕ = take (g * size + size - g * size) (drop (g * size) c.args.block.now) in
    let other : List ℕ = take (8 * col_bytes m) (drop (g * (8 * col_bytes m)) c.args.block.now) in
    let made : eight ≡ columns_of a.seeded 8 m a.session.now (take (8 * entry_bytes a.seeded m) (drop (g * (8 * entry_bytes a.seeded m)) a.taken.now))
    = c.taken_columns.ensures ∙ ap (columns_of a.seeded 8 m a.session.now) (part g a.taken.now entry_is) in
    let eight_long : length eight ≡ 8 * col_bytes m
    = ap length made
    ∙ length-columns_of a.seeded 8 m a.session.now _
    (simp (length-take, length-drop) (omega (arith, line-within C.width (8 * entry_bytes a.seeded m) g h, f.taken_long))) in
    let again : take (size - 0) (drop 0 (put_mid 0 (size - 0) c.loop-g.work eight)) ≡ eight = front_back size c.loop-g.work eight (eight_long ∙ sym size_is) in
    let fits : EightFit m C.width g (length eight) (length other) (length c.loop-g.q) = record {
      eight_long = eight_long;
      others_long = simp (length-take, length-drop) (omega (arith, line-within C.width (8 * col_bytes m) g h, f.block_long));
      rows_long = c.loop-g.invariant.0.long ∙ f.rows_long;
      place = h;
    } in (
      rowed_more m (joined (col_bytes m) keep eight other) c.loop-g.invariant.0 h f.rows_long
          (c.join_eight.ensures
          ∙ ap₂ (λ (x : ℕ) (y : List ℕ). joined_over m x g keep y lent c.loop-g.q) width again
          ∙ ap (λ (y : List ℕ). joined_over m C.width g keep eight y c.loop-g.q) (part g c.args.block.now size_is)
          ∙ joined_fits m C.width g keep eight other c.loop-g.q fits)
          (taken_at C a.seeded m a.session.now a.secret.now c.args.block.now a.taken.now g eight other h f.block_long f.taken_long (omega arith) made refl),
      same_len_mid 0 (size - 0) c.loop-g.work eight
          (eight_long ∙ simp (length-take, length-drop) (omega (arith, f.few, c.loop-g.invariant.1))) ∙ c.loop-g.invariant.1,
    )

pub returns : goal.returns
returns c =
    rowed_end c.args.self.now.shape.rows c.loop-g.invariant.0 (omega (arith, c.row_bytes-width.ensures.is)) c.requires.rows_long
    (length-taking _ _ _ _ _)
