-- Demand 2: a run by the rules opens to the selected strings and is refused nowhere, and its messages are the construction's, bit by bit. The
-- construction's theorems do the work; here the calls' headers, forms and lengths are put around them. Assumes nothing.
use mathlib.Core.Path.{◌≡◌, refl, sym, ap, ap₂, ◌∙◌, subst}
use mathlib.Core.Bool.{Bool, true, false, true≢false}
use mathlib.Core.List.{List}
use Prim.Native.Nat.{ℕ, ◌+◌, ◌-◌, ◌*◌, ◌/◌}
use native.Mathlib.Omega.{arith}
use lib.ListN.{length, drop, length-drop}
use Rattle.basics.specs.declared.Verdict.{Verdict}
use Rattle.basics.specs.Bytes.{bit_in}
use Rattle.basics.specs.Padding.{col_bytes}
use Rattle.basics.specs.Verdicts.{pass}
use Rattle.basics.proofs.Verdicts.{gives_passed}
use Rattle.words.specs.Code.{Code, k, code_of}
use Rattle.construction.specs.Transfer as transfer
use Rattle.construction.specs.Transfer.{Columns, select, selected}
use Rattle.construction.specs.Agreement as agreement
use Rattle.construction.specs.Agreement.{strings_in}
use Rattle.construction.proofs.Bytewise.{length-expand, message_columns, length-kept, length-masking}
use Rattle.construction.proofs.Agreement as agrees
use Rattle.construction.proofs.Demands as demands
use Rattle.columns.specs.Sets.{seed_column, expanded, columns_of, entry_bytes}
use Rattle.pads.specs.Pads.{pad_bytes}
use Rattle.wire.specs.Shapes.{k_of, shape_verdict, block_length}
use Rattle.wire.specs.Message.{block_at, message_of}
use Rattle.wire.specs.Received.{received}
use Rattle.wire.proofs.Received.{received-message_of}
use Rattle.buyer.specs.Prepare.{column_block, column_message, kept_rows, prepare_verdict, Prepared}
use Rattle.buyer.specs.Open.{opened_rows, opened_strings, Opened}
use Rattle.columns.proofs.Sizes.{k_of_lem, row_of}
use Rattle.supplier.specs.Answer.{answer_verdict, taken_rows, masked_strings, answer_message, Answered}
use Rattle.transfer.specs.Rules.{None, shape_rules}
use Rattle.transfer.specs.Demands.{Run, Passed, Success, Room, Selects, Lawful, G, entries, Demand2}
use Rattle.transfer.proofs.Decided.{decided_zero}
use Rattle.transfer.proofs.Rules.{shape_decided, received_decided, prepare_decided, answer_decided}
use Rattle.transfer.proofs.Passed.{PrepareFits, AnswerFits, OpenFits, prepare_ok, prepare_pass, answer_ok, answer-pass, open_ok, open_pass, drop-message_of, received_long, expanded_is, columns_of_long, columns_of_columns}

-- a verdict of 0 by the contract's definition
code_is : {v r : Verdict} → r ≡ v → r.code ≡ 0 → v.code ≡ 0
code_is e z = sym (ap (λ (x : Verdict). x.code) e) ∙ z

-- ---- the blocks of the two messages, and the kept rows

module _ {seeded : Bool} {mode m n l : ℕ} {session first second selections message₀ kept₀ : List ℕ} {r : Verdict} {message kept : List ℕ}
    (g : Prepared seeded mode m n l session first second selections message₀ kept₀ r message kept) (z : r.code ≡ 0) where
  pub prepared_fits : PrepareFits seeded mode m n l session first second selections (length message₀) (length kept₀)
  prepared_fits = prepare_ok seeded mode m n l session first second selections _ _ (code_is g.sent.verdict z)

  pub prepared_block : drop block_at message
      ≡ transfer.message (code_of mode) m (columns_of seeded (k_of mode) m session first) (columns_of seeded (k_of mode) m session second) selections
  unfolding column_message column_block
  prepared_block = ap (drop block_at) (gives_passed g.sent z) ∙ drop-message_of 3 mode m n l session _ prepared_fits.inputs.0

  pub prepared_rows : kept ≡ transfer.kept (code_of mode) m (columns_of seeded (k_of mode) m session second) selections
  unfolding kept_rows
  prepared_rows = gives_passed g.rows z

  pub first_long : length (columns_of seeded (k_of mode) m session first) ≡ k (code_of mode) * col_bytes m
  first_long = columns_of_long mode m session seeded first prepared_fits.inputs.1.0

  pub second_long : length (columns_of seeded (k_of mode) m session second) ≡ k (code_of mode) * col_bytes m
  second_long = columns_of_long mode m session seeded second prepared_fits.inputs.1.1.0

module _ (seeded : Bool) (mode m n l : ℕ) (session secret taken strings columns answer₀ : List ℕ) {r : Verdict} {answer : List ℕ}
    (g : Answered seeded mode m n l session secret taken strings columns answer₀ r answer) (z : r.code ≡ 0) where
  pub answered_fits : AnswerFits seeded mode m n l session secret taken strings columns (length answer₀)
  answered_fits = answer_ok seeded mode m n l session secret taken strings columns _ (code_is g.verdict z)

  pub answered_block : drop block_at answer
      ≡ transfer.answer (code_of mode) (pad_bytes session l) m n l secret (drop block_at columns) (columns_of seeded (k_of mode) m session taken) strings
  unfolding answer_message masked_strings taken_rows transfer.answer
  answered_block = ap (drop block_at) (gives_passed g z) ∙ drop-message_of 4 mode m n l session _ answered_fits.inputs.0

  pub arrived_long : length (drop block_at columns) ≡ k (code_of mode) * col_bytes m
  unfolding block_length
  arrived_long =
      let e : length columns ≡ block_at + k_of mode * col_bytes m = received_long 3 mode m n l session columns answered_fits.arrived in
      length-drop block_at columns ∙ (let h : length columns - block_at ≡ k_of mode * col_bytes m = omega arith in h) ∙ ap (λ (x : ℕ). x * col_bytes m) (k_of_lem mode)

module _ (mode m n l : ℕ) (session selections kept answer opened₀ : List ℕ) {r : Verdict} {opened : List ℕ}
    (g : Opened mode m n l session selections kept answer opened₀ r opened) (z : r.code ≡ 0) where
  pub opened_fits : OpenFits mode m n l session selections kept answer (length opened₀)
  opened_fits = open_ok mode m n l session selections kept answer _ (code_is g.verdict z)

  pub opened_rows_lem : opened ≡ transfer.opened (code_of mode) (pad_bytes session l) m n l selections kept (drop block_at answer)
  unfolding opened_strings opened_rows
  opened_rows_lem = gives_passed g z

-- ---- what the buyer opens

pub opens_mixed : (buyer supplier : Bool) (mode m n l : ℕ) (session first second selections secret taken strings : List ℕ)
    (run : Run buyer supplier mode m n l session first second selections secret taken strings)
    → Selects buyer supplier mode m session secret first second taken → Passed run → run.opened ≡ selected m n l selections strings
opens_mixed buyer supplier mode m n l session first second selections secret taken strings run s p =
    let C = code_of mode in
    let U = columns_of buyer (k_of mode) m session first in
    let W = columns_of buyer (k_of mode) m session second in
    let pad = pad_bytes session l in
    opened_rows_lem mode m n l session selections run.kept run.answer run.opened₀ run.opens p.2
    ∙ ap₂ (transfer.opened C pad m n l selections) (prepared_rows run.prepares p.0)
    (answered_block supplier mode m n l session secret taken strings run.message run.answer₀ run.answers p.1
    ∙ ap₂ (λ (w t : List ℕ). transfer.answer C pad m n l secret w t strings) (prepared_block run.prepares p.0) s)
    ∙ demands.opens C pad m n l secret U W selections strings (first_long run.prepares p.0) (second_long run.prepares p.0)
    (prepared_fits run.prepares p.0).in_range

-- what the secret selects of two sets of seeds stands for what it selects of their columns
pub selects_same : (seeded : Bool) (mode m : ℕ) (session secret first second : List ℕ) → length first ≡ k_of mode * entry_bytes seeded m
    → length second ≡ k_of mode * entry_bytes seeded m
    → Selects seeded seeded mode m session secret first second (select (code_of mode) (entry_bytes seeded m) secret first second)
selects_same true mode m session secret first second hf hs =
    let C = code_of mode in
    expanded_is mode m session (select C 32 secret first second)
    ∙ demands.expands_taken C m (seed_column session m) secret first second (hf ∙ ap (λ (x : ℕ). x * 32) (k_of_lem mode)) (hs ∙ ap (λ (x : ℕ). x * 32) (k_of_lem mode))
    ∙ ap₂ (select C (col_bytes m) secret) (sym (expanded_is mode m session first)) (sym (expanded_is mode m session second))
selects_same false mode m session secret first second hf hs = refl

-- ---- nothing is refused

shape_pass : (mode m n l : ℕ) → None (shape_rules mode m n l) → shape_verdict mode m n l ≡ pass
shape_pass mode m n l z = (shape_decided mode m n l).passed.1 z

pub code_zero : {v : Verdict} → v ≡ pass → v.code ≡ 0
code_zero e = ap (λ (x : Verdict). x.code) e

-- the sender's own messages pass
pub columns_arrive : (mode m n l : ℕ) (session first second selections : List ℕ) → length session ≡ 12 → Columns (code_of mode) m first → Columns (code_of mode) m second
    → received 3 mode m n l session (message_of 3 mode m n l session (transfer.message (code_of mode) m first second selections)) ≡ pass
unfolding block_length
columns_arrive mode m n l session first second selections hs cf cs =
    let c = message_columns (code_of mode) m first second selections cf cs in
    received-message_of 3 _ mode m n l session _ hs (c.long ∙ ap (λ (x : ℕ). x * col_bytes m) (sym (k_of_lem mode))) (λ _ i hi. c.clear i (rw (k_of_lem mode) at hi))

pub strings_arrive : (mode m n l : ℕ) (session block : List ℕ) → length session ≡ 12 → length block ≡ m * n * l
    → received 4 mode m n l session (message_of 4 mode m n l session block) ≡ pass
unfolding block_length
strings_arrive mode m n l session block hs hb = received-message_of 4 _ mode m n l session block hs hb (λ e. let z : 4 ≡ 3 = e in absurd (omega arith))

accepts : (buyer supplier : Bool) (mode m n l : ℕ) (session first second selections secret taken strings : List ℕ)
    (run : Run buyer supplier mode m n l session first second selections secret taken strings)
    → Lawful buyer supplier mode m n l session first second selections secret taken strings → Room run → Success run
unfolding column_message column_block kept_rows answer_message masked_strings
accepts buyer supplier mode m n l session first second selections secret taken strings run w room = (preparing, answering, opening)
  where
    C : Code
    C = code_of mode

    hs : length session ≡ 12
    hs = w.prepare_long.0

    preparing : run.preparing ≡ pass
    preparing =
        run.prepares.sent.verdict
        ∙ prepare_pass buyer mode m n l session first second selections _ _ (shape_pass mode m n l w.shape) w.prepare_long room.0 w.in_range w.buyer_clear

    message_is : run.message ≡ column_message buyer mode m n l session first second selections
    message_is = gives_passed run.prepares.sent (code_zero preparing)

    answering : run.answering ≡ pass
    answering =
        run.answers.verdict
        ∙ answer-pass supplier mode m n l session secret taken strings run.message _ (shape_pass mode m n l w.shape) w.answer_long room.1 w.supplier_clear
        (ap (received 3 mode m n l session) message_is
        ∙ columns_arrive mode m n l session _ _ selections hs
        (columns_of_columns mode m session buyer first (λ e. (w.buyer_clear e).0)) (columns_of_columns mode m session buyer second (λ e. (w.buyer_clear e).1)))

    kept_long : length run.kept ≡ m * (k_of mode / 8)
    kept_long =
        ap length (gives_passed run.prepares.rows (code_zero preparing))
        ∙ length-kept C m _ selections ∙ ap (λ (x : ℕ). m * x) (sym (row_of mode))

    opening : run.opening ≡ pass
    opening =
        run.opens.verdict
        ∙ open_pass mode m n l session selections run.kept run.answer _ (shape_pass mode m n l w.shape) (hs, (w.in_range.long, (kept_long, tt))) room.2 w.in_range
        (ap (received 4 mode m n l session) (gives_passed run.answers (code_zero answering))
        ∙ strings_arrive mode m n l session _ hs (length-masking C (pad_bytes session l) m n l secret _ strings))

-- ---- the two forms

-- the lengths of expanded sets, for the form from columns
expanded_long : (mode m : ℕ) (session seeds : List ℕ) → length (expanded (k_of mode) m session seeds) ≡ k_of mode * col_bytes m
expanded_long mode m session seeds =
    ap length (expanded_is mode m session seeds) ∙ length-expand (code_of mode) m (seed_column session m) seeds ∙ ap (λ (x : ℕ). x * col_bytes m) (sym (k_of_lem mode))

prepare_alike : (mode m n l : ℕ) (session first second selections message kept : List ℕ) (r r' : Verdict) (message₁ kept₁ message₂ kept₂ : List ℕ)
    → Prepared true mode m n l session first second selections message kept r message₁ kept₁
    → Prepared false mode m n l session (expanded (k_of mode) m session first) (expanded (k_of mode) m session second) selections message kept r' message₂ kept₂
    → r.code ≡ 0 → (r' ≡ r) × (message₂ ≡ message₁) × (kept₂ ≡ kept₁)
unfolding column_message column_block kept_rows
prepare_alike mode m n l session first second selections message kept r r' message₁ kept₁ message₂ kept₂ g h z =
    let U = expanded (k_of mode) m session first in
    let W = expanded (k_of mode) m session second in
    let f = prepared_fits g z in
    let seeds : prepare_verdict true mode m n l session first second selections (length message) (length kept) ≡ pass
    = decided_zero (prepare_decided true mode m n l session first second selections _ _) (code_is g.sent.verdict z) in
    let e : r' ≡ pass
    = h.sent.verdict
    ∙ prepare_pass false mode m n l session U W selections _ _ (decided_zero (shape_decided mode m n l) f.shape)
    (f.inputs.0, (expanded_long mode m session first, (expanded_long mode m session second, f.inputs.1.1.1))) f.outputs f.in_range
    (λ _. (columns_of_columns mode m session true first (λ t. absurd (true≢false t)), columns_of_columns mode m session true second (λ t. absurd (true≢false t)))) in
    let y : r'.code ≡ 0 = code_zero e in
    (e ∙ sym (g.sent.verdict ∙ seeds), gives_passed h.sent y ∙ sym (gives_passed g.sent z), gives_passed h.rows y ∙ sym (gives_passed g.rows z))

answer_alike : (mode m n l : ℕ) (session secret taken strings columns message : List ℕ) (r r' : Verdict) (message₁ message₂ : List ℕ)
    → Answered true mode m n l session secret taken strings columns message r message₁
    → Answered false mode m n l session secret (expanded (k_of mode) m session taken) strings columns message r' message₂
    → r.code ≡ 0 → (r' ≡ r) × (message₂ ≡ message₁)
unfolding answer_message taken_rows
answer_alike mode m n l session secret taken strings columns message r r' message₁ message₂ g h z =
    let t = expanded (k_of mode) m session taken in
    let f = answered_fits true mode m n l session secret taken strings columns message g z in
    let seeds : answer_verdict true mode m n l session secret taken strings columns (length message) ≡ pass
    = decided_zero (answer_decided true mode m n l session secret taken strings columns _) (code_is g.verdict z) in
    let e : r' ≡ pass
    = h.verdict
    ∙ answer-pass false mode m n l session secret t strings columns _ (decided_zero (shape_decided mode m n l) f.shape)
    (f.inputs.0, (f.inputs.1.0, (expanded_long mode m session taken, f.inputs.1.1.1))) f.outputs
    (λ _. columns_of_columns mode m session true taken (λ x. absurd (true≢false x)))
    (decided_zero (received_decided 3 mode m n l session columns) f.arrived) in
    (e ∙ sym (g.verdict ∙ seeds), gives_passed h (code_zero e) ∙ sym (gives_passed g z))

-- ---- bit by bit

-- the columns of a lent set have the bits that G gives for its entries
holds_set : (seeded : Bool) (mode m : ℕ) (session set : List ℕ) → length set ≡ k_of mode * entry_bytes seeded m
    → agreement.Holds (code_of mode) m (G seeded session m) (entries seeded m set) (columns_of seeded (k_of mode) m session set)
holds_set true mode m session set h =
    subst (agreement.Holds (code_of mode) m (G true session m) (entries true m set)) (sym (expanded_is mode m session set))
    (agrees.holds_seeds (code_of mode) m (seed_column session m) set)
holds_set false mode m session set h = agrees.holds_columns (code_of mode) m set (h ∙ ap (λ (x : ℕ). x * col_bytes m) (k_of_lem mode))

pub demand_2 : Demand2
unfolding code_of
demand_2 = record {
  opens = λ seeded mode m n l session first second selections secret strings run p.
      let f = (prepared_fits run.prepares p.0).inputs in
      opens_mixed seeded seeded mode m n l session first second selections secret _ strings run
      (selects_same seeded mode m session secret first second f.1.0 f.1.1.0) p;
  opens_mixed = opens_mixed;
  accepts = accepts;
  prepare_alike = prepare_alike;
  answer_alike = answer_alike;
  pairs_repeat = agrees.pairs_repeat;
  choices_walsh = agrees.choices_walsh;
  sends_w = λ seeded mode m n l session first second selections message₀ kept₀ r message kept g z i j hi hj.
      let f = (prepared_fits g z).inputs in
      ap (λ (s : List ℕ). bit_in (col_bytes m) s i j) (prepared_block g z)
      ∙ agrees.sends_w (code_of mode) m (G seeded session m) _ _ _ _ selections
      (holds_set seeded mode m session first f.1.0) (holds_set seeded mode m session second f.1.1.0) i j hi hj;
  keeps_t0 = λ seeded mode m n l session first second selections message₀ kept₀ r message kept g z j i hj hi.
      let f = (prepared_fits g z).inputs in
      ap (λ (s : List ℕ). bit_in (code_of mode).width s j i) (prepared_rows g z)
      ∙ agrees.keeps_t0 (code_of mode) m (G seeded session m) _ _ selections (holds_set seeded mode m session second f.1.1.0) j i hj hi;
  sends_y = λ seeded mode m n l session secret taken strings columns answer₀ r answer g z j p t hj hp ht.
      let f = (answered_fits seeded mode m n l session secret taken strings columns answer₀ g z).inputs in
      ap (λ (s : List ℕ). strings_in n l s j p t) (answered_block seeded mode m n l session secret taken strings columns answer₀ g z)
      ∙ agrees.sends_y (code_of mode) (pad_bytes session l) m n l (G seeded session m) _ secret (drop block_at columns) _ strings
      (arrived_long seeded mode m n l session secret taken strings columns answer₀ g z) (holds_set seeded mode m session taken f.1.1.0) j p t hj hp ht;
  recovers_z = λ mode m n l session selections kept answer opened₀ r opened g z b j t hj ht.
      let f = (opened_fits mode m n l session selections kept answer opened₀ g z).inputs in
      ap (λ (s : List ℕ). bit_in l s j t) (opened_rows_lem mode m n l session selections kept answer opened₀ g z)
      ∙ agrees.recovers_z (code_of mode) (pad_bytes session l) m n l selections kept (drop block_at answer)
      (f.1.1.0 ∙ ap (λ (x : ℕ). m * x) (row_of mode)) b j t hj ht;
}
