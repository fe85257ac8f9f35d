-- How the block of the column message and the kept rows come about in the message's own bytes: ((0 xor V) xor D) xor U is U xor V xor D. Assumes nothing.
use mathlib.Core.Path.{◌≡◌, refl, sym, ap, ap₂, ◌∙◌}
use mathlib.Core.Bool.{Bool, true}
use mathlib.Core.List.{List, [], ◌++◌, append-nil}
use Prim.Native.Nat.{ℕ, ◌+◌, ◌-◌, ◌*◌, ◌/◌, ◌≤◌}
use native.Mathlib.Omega.{arith}
use lib.ListN.{length, take, drop, length-append, length-take, length-drop, drop_of_length-le}
use borrow.Author.Tests.{eq-eqb}
use borrow.Rule.Slice.PartMut.{put_mid}
use Rattle.basics.specs.Choice.{pick}
use Rattle.basics.specs.Bytes.{build, ◌⊕◌}
use Rattle.basics.specs.Padding.{col_bytes}
use Rattle.basics.specs.Verdicts.{pass}
use Rattle.basics.proofs.Bytes.{length-xor, xor_strings_assoc, zeros-xor, xor_strings_comm}
use Rattle.basics.proofs.Choice.{picked}
use Rattle.basics.proofs.Fill.{put_next}
use Rattle.basics.proofs.Verdicts.{gives_ok}
use Rattle.words.specs.Code.{code_of}
use Rattle.wire.specs.Shapes.{k_of}
use Rattle.wire.specs.Message.{header, message_of}
use Rattle.wire.proofs.Message.{length-header}
use Rattle.construction.specs.Transfer.{chosen, rows, message, kept}
use Rattle.construction.proofs.Bytewise.{length-message}
use Rattle.columns.specs.Sets.{columns_of, entry_bytes, set_fit}
use Rattle.columns.specs.Gathered.{rows_fit}
use Rattle.columns.proofs.Sets.{SetFit, set_fit_passed, length-columns_of}
use Rattle.buyer.specs.Prepare.{prepare_verdict, column_block, column_message, kept_columns, kept_rows, Prepared}
use Rattle.columns.proofs.Sizes.{k_of_lem, row_of}
use Rattle.buyer.proofs.Judged.{Prepares, prepare_passed}

-- ---- a lent set of the right length

module _ (seeded : Bool) (mode m : ℕ) (session set old : List ℕ) (h : set_fit seeded (k_of mode) m (length session) (length set) (length old) ≡ true) where
  abbrev fit : SetFit seeded (k_of mode) m (length session) (length set) (length old)
  fit = set_fit_passed seeded (k_of mode) m (length session) (length set) (length old) h

  -- the set's columns added to a block, by the code's own k
  pub set-added : (count : ℕ) (block : List ℕ) {now : List ℕ} → count ≡ k_of mode → length block ≡ length old
      → now ≡ pick (set_fit seeded count m (length session) (length set) (length block)) (block ⊕ columns_of seeded count m session set) block
      → now ≡ block ⊕ columns_of seeded (k_of mode) m session set
  set-added count block ec el e =
      e ∙ picked _ _ (ap₂ (λ (x y : ℕ). set_fit seeded x m (length session) (length set) y) ec el ∙ h)
      ∙ ap (λ (x : ℕ). block ⊕ columns_of seeded x m session set) ec

  pub set_long : length (columns_of seeded (k_of mode) m session set) ≡ k_of mode * col_bytes m
  set_long = length-columns_of seeded (k_of mode) m session set fit.set_long

  pub block_long : length old ≡ k_of mode * col_bytes m
  block_long = fit.block_long

  -- added to zeros they stand alone
  pub set_alone : {zeros now : List ℕ} → zeros ≡ build (length old) (λ p. 0) → now ≡ zeros ⊕ columns_of seeded (k_of mode) m session set
      → now ≡ columns_of seeded (k_of mode) m session set
  set_alone ez e =
      e ∙ ap (λ (x : List ℕ). x ⊕ columns_of seeded (k_of mode) m session set) ez
      ∙ zeros-xor (length old) (columns_of seeded (k_of mode) m session set) (set_long ∙ sym block_long)

-- ---- the two outputs

module _ (seeded : Bool) (mode m : ℕ) (session second selections old : List ℕ)
    (h : set_fit seeded (k_of mode) m (length session) (length second) (length old) ≡ true) where
  pub length-kept_columns : length (kept_columns seeded mode m session second selections) ≡ length old
  unfolding kept_columns
  length-kept_columns =
      length-xor (columns_of seeded (k_of mode) m session second) (chosen (code_of mode) m selections)
      ∙ set_long seeded mode m session second old h ∙ sym (block_long seeded mode m session second old h)

  -- the rows gathered from the block are those kept
  pub rows-kept : (cols out : List ℕ) {now : List ℕ} → cols ≡ kept_columns seeded mode m session second selections → length out ≡ m * (k_of mode / 8)
      → now ≡ pick (rows_fit (code_of mode).width m (length cols) (length out)) (rows (code_of mode) m cols) out
      → now ≡ kept_rows seeded mode m session second selections
  unfolding kept_columns kept_rows kept
  rows-kept cols out ec eo e =
      let cols-long : length cols ≡ (code_of mode).width * 8 * col_bytes m =
      ap length ec ∙ length-kept_columns ∙ block_long seeded mode m session second old h ∙ ap (λ (x : ℕ). x * col_bytes m) (k_of_lem mode) in
      let out_long : length out ≡ m * (code_of mode).width = eo ∙ ap (λ (x : ℕ). m * x) (row_of mode) in
      let fits : rows_fit (code_of mode).width m (length cols) (length out) ≡ true =
      simp (eq-eqb (length cols) ((code_of mode).width * 8 * col_bytes m) cols-long, eq-eqb (length out) (m * (code_of mode).width) out_long) in
      e ∙ picked _ _ fits
      ∙ ap (rows (code_of mode) m) ec

  -- the first set's columns added to them are the message's block
  pub block_sent : (first : List ℕ) → set_fit seeded (k_of mode) m (length session) (length first) (length old) ≡ true
      → kept_columns seeded mode m session second selections ⊕ columns_of seeded (k_of mode) m session first
      ≡ column_block seeded mode m session first second selections
  unfolding column_block kept_columns message
  block_sent first g =
      let u : List ℕ = columns_of seeded (k_of mode) m session first in
      let w : List ℕ = columns_of seeded (k_of mode) m session second in
      let d : List ℕ = chosen (code_of mode) m selections in
      let lu : length u ≡ k_of mode * col_bytes m = set_long seeded mode m session first old g in
      let lw : length w ≡ k_of mode * col_bytes m = set_long seeded mode m session second old h in
      xor_strings_comm (w ⊕ d) u (length-xor w d ∙ lw ∙ sym lu) ∙ sym (xor_strings_assoc u w d (lu ∙ sym lw))

-- ---- the whole message

-- the header h over the front of a message d
pub header-put : (d h : List ℕ) → put_mid 0 27 d h ≡ h ++ drop 27 d
header-put d h = put_next 0 27 [] d h refl

pub length-put : (d h : List ℕ) → length h ≡ 27 → 27 ≤ length d → length (h ++ drop 27 d) ≡ length d
length-put d h lh l = length-append h (drop 27 d) ∙ simp length-drop (omega arith)

-- then the block z over the rest
pub block-put : (d h z : List ℕ) {now : List ℕ} → now ≡ h ++ drop 27 d → length h ≡ 27 → 27 ≤ length d → length z ≡ length d - 27
    → put_mid 27 (length now - 27) now z ≡ h ++ z
block-put d h z {now} e lh ld lz =
    ap (λ (x : List ℕ). put_mid 27 (length x - 27) x z) e ∙ put_next 27 (length (h ++ drop 27 d) - 27) h (drop 27 d) z lh
    ∙ ap (λ (x : List ℕ). (h ++ z) ++ x)
    (drop_of_length-le (drop 27 d) {i = length (h ++ drop 27 d) - 27} (omega (arith, length-put d h lh ld, length-drop 27 d)))
    ∙ append-nil (h ++ z)

-- once nothing is refused, the message with its header is as long as its shape says
pub header_long : {seeded : Bool} {mode m n l : ℕ} {session first second selections now : List ℕ} {kept : ℕ} (d : List ℕ)
    → Prepares seeded mode m n l session first second selections (length d) kept → now ≡ header 3 (length d - 27) mode m n l session ++ drop 27 d
    → length now ≡ 27 + k_of mode * col_bytes m
header_long {seeded} {mode} {m} {n} {l} {session} d z e =
    ap length e
    ∙ length-put d _ (length-header 3 (length d - 27) mode m n l session z.lengths.session_long) (omega (arith, z.lengths.message_long))
    ∙ z.lengths.message_long

-- as long a part is lent to the block
pub part_long : (s : List ℕ) (n : ℕ) → length s ≡ 27 + n → length (take (length s - 27) (drop 27 s)) ≡ n
part_long s n e = simp (length-take, length-drop) (omega arith)

module _ (seeded : Bool) (mode m n l : ℕ) (session first second selections : List ℕ) where
  pub length-column_block : length first ≡ k_of mode * entry_bytes seeded m → length (column_block seeded mode m session first second selections) ≡ k_of mode * col_bytes m
  unfolding column_block
  length-column_block h =
      length-message (code_of mode) m (columns_of seeded (k_of mode) m session first) (columns_of seeded (k_of mode) m session second) selections
      ∙ length-columns_of seeded (k_of mode) m session first h

  pub message_made : (len : ℕ) (block : List ℕ) → block ≡ column_block seeded mode m session first second selections → len ≡ length block
      → header 3 len mode m n l session ++ block ≡ column_message seeded mode m n l session first second selections
  unfolding column_message message_of
  message_made len block eb el =
      ap (λ (x : List ℕ). header 3 len mode m n l session ++ x) eb
      ∙ ap (λ (x : ℕ). header 3 x mode m n l session ++ column_block seeded mode m session first second selections) (el ∙ ap length eb)

-- what prepare leaves where nothing is refused: the header in the message's front, the block behind it, and the kept rows
pub prepared_written : {seeded : Bool} {mode m n l : ℕ} {session first second selections d old headed block kept : List ℕ}
    → pass ≡ prepare_verdict seeded mode m n l session first second selections (length d) (length old)
    → headed ≡ header 3 (length d - 27) mode m n l session ++ drop 27 d
    → block ≡ column_block seeded mode m session first second selections → kept ≡ kept_rows seeded mode m session second selections
    → Prepared seeded mode m n l session first second selections d old pass (put_mid 27 (length headed - 27) headed block) kept
prepared_written {seeded} {mode} {m} {n} {l} {session} {first} {second} {selections} {d} {old} {headed} {block} v eh eb ek =
    let z = prepare_passed v refl in
    let long : length block ≡ k_of mode * col_bytes m = ap length eb ∙ length-column_block seeded mode m n l session first second selections z.lengths.first_long in
    record {
      sent = gives_ok v
          (block-put d _ block eh (length-header 3 (length d - 27) mode m n l session z.lengths.session_long)
          (omega (arith, z.lengths.message_long)) (omega (arith, z.lengths.message_long))
          ∙ message_made seeded mode m n l session first second selections (length d - 27) block eb (omega (arith, z.lengths.message_long)));
      rows = gives_ok v ek;
    }
