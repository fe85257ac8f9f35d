-- `write` meets its contract: the rows are taken into the front of the workspace, and masking starts from them. Assumes nothing.
use Rattle.std.proofs.Common.{◌≡◌, ℕ, ◌+◌, ◌-◌, ◌*◌, ◌≤◌, List, length, take, drop, sym, ap, ◌∙◌, arith}
use native.Mathlib.Nat.{mul-le-mul_left}
use lib.ListN.{length-take, length-drop}
use borrow.Rule.Slice.PartMut.{put_mid}
use Rattle.basics.proofs.Fill.{front_back}
use Rattle.words.specs.Code.{code_of}
use Rattle.construction.proofs.Bytewise.{length-taking}
use Rattle.columns.specs.Gathered.{RowBytes}
use Rattle.wire.specs.Message.{message_of as framed}
use Rattle.supplier.specs.declared.lent.Answering.{Answering}
use Rattle.supplier.specs.Answer.{answer_message}
use Rattle.supplier.specs.Calls.{verdict_of, rows_from, masked_of}
use Rattle.supplier.proofs.Taken.{taken_rows_lem}
use Rattle.supplier.proofs.Ready.{Ready, ready, ready_take, ready_mask}
use Rattle.supplier.proofs.lent.Answering.write.Goals as goal

-- what a verdict of 0 tells
module _ (a : Answering) (message : ℕ) (passed : (verdict_of a message).code ≡ 0) where
  known : Ready a.seeded a.shape.mode a.shape.rows a.shape.places a.shape.bytes a.session.now a.secret.now a.taken.now a.strings.now a.received.now message
  known =
      ready a.seeded a.shape.mode a.shape.rows a.shape.places a.shape.bytes a.session.now a.secret.now a.taken.now a.strings.now a.received.now message passed
      a.received_bytes

pub slice_bounds-take_rows-count : goal.slice_bounds-take_rows-count
slice_bounds-take_rows-count c = omega (arith, (known c.args.self.now _ c.requires.passed).received_long)

pub slice_bounds-take_rows-start : goal.slice_bounds-take_rows-start
slice_bounds-take_rows-start c = omega (arith, (known c.args.self.now _ c.requires.passed).received_long)

-- the bytes of all rows
rows_long : (mode m : ℕ) {n w : ℕ} → n ≡ m → RowBytes mode w → n * w ≡ m * (code_of mode).width
rows_long mode m {n} {w} hn hw = ap (λ (x : ℕ). x * w) hn ∙ ap (λ (x : ℕ). m * x) hw.is

rows_few : (mode m : ℕ) {n w : ℕ} → n ≡ m → RowBytes mode w → n * w ≤ m * 32
rows_few mode m {n} {w} hn hw = rw hn (mul-le-mul_left m hw.high)

-- the rows that were taken are read again from the workspace
rows_again : (a : Answering) (block work : List ℕ) {n w : ℕ} {q : List ℕ} → n ≡ a.shape.rows → RowBytes a.shape.mode w → q ≡ rows_from a block
    → take (n * w - 0) (drop 0 (put_mid 0 (n * w - 0) work q)) ≡ q
rows_again a block work {n} {w} {q} hn hw hq =
    front_back (n * w) work q
    (ap length hq ∙ length-taking (code_of a.shape.mode) a.shape.rows _ _ _ ∙ sym (rows_long a.shape.mode a.shape.rows hn hw))

pub take_rows-requires : goal.take_rows-requires
take_rows-requires c =
    let a = c.args.self.now in
    let s = a.shape in
    let z = known a _ c.requires.passed in
    ready_take a.seeded s.mode s.rows s.places s.bytes a.session.now a.secret.now a.taken.now a.strings.now a.received.now
    (length c.args.message.now) z _ _ (simp (length-take, length-drop) (omega (arith, z.received_long)))
    (simp (length-take, length-drop) (omega (arith, rows_few s.mode s.rows c.from.ensures c.row_bytes.ensures, c.requires.room))
    ∙ rows_long s.mode s.rows c.from.ensures c.row_bytes.ensures)

pub write_masked-requires-clause-fit : goal.write_masked-requires-clause-fit
write_masked-requires-clause-fit c =
    let a = c.args.self.now in
    let s = a.shape in
    let z = known a _ c.requires.passed in
    ready_mask a.seeded s.mode s.rows s.places s.bytes a.session.now a.secret.now a.taken.now a.strings.now a.received.now (length c.args.message.now) z _
    (ap length (rows_again a _ c.args.work.now c.from.ensures c.row_bytes.ensures c.take_rows.ensures) ∙ ap length c.take_rows.ensures
    ∙ length-taking (code_of s.mode) s.rows _ _ _)

pub write_masked-requires-clause-room : goal.write_masked-requires-clause-room
write_masked-requires-clause-room c =
    let z = known c.args.self.now _ c.requires.passed in
    z.lengths.message_long ∙ ap (λ (x : ℕ). 27 + x) (sym z.lengths.strings_long)

pub write_masked-requires-clause-few : goal.write_masked-requires-clause-few
write_masked-requires-clause-few c =
    let z = known c.args.self.now _ c.requires.passed in
    omega (arith, z.lengths.strings_long, z.shape.volume)

pub returns : goal.returns
unfolding answer_message
returns c =
    let a = c.args.self.now in
    let s = a.shape in
    c.write_masked.ensures
    ∙ ap (λ (q : List ℕ). framed 4 s.mode s.rows s.places s.bytes a.session.now (masked_of a q a.strings.now))
    (rows_again a _ c.args.work.now c.from.ensures c.row_bytes.ensures c.take_rows.ensures
    ∙ taken_rows_lem a.seeded s.mode s.rows a.session.now a.secret.now a.taken.now a.received.now c.take_rows.ensures)
