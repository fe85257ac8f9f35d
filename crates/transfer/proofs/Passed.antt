-- What a call's verdict of 0 says, and that a call whose inputs are by the rules has it. Assumes nothing.
use mathlib.Core.Path.{◌≡◌, refl, sym, ap, ◌∙◌, subst}
use mathlib.Core.Bool.{Bool, true, false}
use mathlib.Core.List.{List, [], ◌∷◌}
use Prim.Native.Nat.{ℕ, zero, suc, ◌+◌, ◌*◌, ◌<◌}
use native.Mathlib.Omega.{arith}
use lib.Dec.{eqb}
use lib.ListN.{length, get_or, drop}
use borrow.Author.Tests.{eqb-true, eq-eqb, leb-false, lt-leb}
use Rattle.basics.specs.declared.Verdict.{Verdict}
use Rattle.basics.specs.Choice.{pick, by_bit}
use Rattle.basics.specs.Bytes.{bit_at}
use Rattle.basics.specs.Padding.{col_bytes, padded, Clear}
use Rattle.basics.specs.Verdicts.{pass, unless, or_else, at_first}
use Rattle.basics.proofs.Padding.{padded_clear, clear_padded}
use Rattle.basics.proofs.Verdicts.{unless_ok, or_else_ok, at_first_ok, at_first_none}
use Rattle.symmetric.specs.ChaCha.{chacha20}
use Rattle.words.specs.Code.{Code, k, code_of}
use Rattle.construction.specs.Transfer.{Columns, Selections, select, expand}
use Rattle.construction.proofs.Bytewise.{length-select, select-bit, select_bytes, length-expand}
use Rattle.construction.proofs.Demands.{expands_clear}
use Rattle.columns.specs.Sets.{seed_column, expanded, columns_of, entry_bytes}
use Rattle.wire.specs.Shapes.{k_of, shape_verdict, block_length}
use Rattle.wire.specs.Message.{block_at, message_of}
use Rattle.wire.specs.Received.{received, received_verdict}
use Rattle.wire.specs.Received as wired
use Rattle.wire.proofs.Received.{own_block}
use Rattle.buyer.specs.Selections.{too_large, selections_verdict}
use Rattle.buyer.specs.Prepare.{prepare_lengths, sets_padding, prepare_verdict}
use Rattle.buyer.specs.Open.{open_lengths, open_verdict}
use Rattle.columns.proofs.Sizes.{k_of_lem}
use Rattle.supplier.specs.Answer.{answer_lengths, taken_padding, answer_verdict}
use Rattle.transfer.specs.Rules.{Fit, prepare_inputs, prepare_outputs, answer_inputs, answer_outputs, open_inputs, open_outputs}
use Rattle.transfer.proofs.Decided.{lengths_from}

-- ---- chains of checks

pub or_else-pass : {a b : Verdict} → a ≡ pass → b ≡ pass → or_else a b ≡ pass
unfolding or_else
or_else-pass {a} {b} e f = ap (λ (x : Verdict). pick (eqb x.code 0) b x) e ∙ f

lengths_ok : (code first : ℕ) (bs : List (ℕ × ℕ)) (next : Verdict) → 0 < code → (lengths_from code first bs next).code ≡ 0 → Fit bs × (next.code ≡ 0)
lengths_ok code first [] next pos h = (tt, h)
lengths_ok code first (b ∷ bs) next pos h =
    let x = unless_ok (eqb b.0 b.1) code first _ pos h in
    let y = lengths_ok code (suc first) bs next pos x.1 in
    ((eqb-true _ _ x.0, y.0), y.1)

lengths_pass : (code first : ℕ) (bs : List (ℕ × ℕ)) (next : Verdict) → Fit bs → lengths_from code first bs next ≡ next
unfolding unless
lengths_pass code first [] next f = refl
lengths_pass code first (b ∷ bs) next f = rw (eq-eqb b.0 b.1 f.0) (lengths_pass code (suc first) bs next f.1)

-- inputs, then outputs
both_ok : (inputs outputs : List (ℕ × ℕ)) → (lengths_from 6 1 inputs (lengths_from 7 1 outputs pass)).code ≡ 0 → Fit inputs × Fit outputs
both_ok inputs outputs h =
    let x = lengths_ok 6 1 inputs (lengths_from 7 1 outputs pass) (omega arith) h in
    (x.0, (lengths_ok 7 1 outputs pass (omega arith) x.1).0)

both_pass : (inputs outputs : List (ℕ × ℕ)) → Fit inputs → Fit outputs → lengths_from 6 1 inputs (lengths_from 7 1 outputs pass) ≡ pass
both_pass inputs outputs f g = lengths_pass 6 1 inputs _ f ∙ lengths_pass 7 1 outputs pass g

selections_ok : (m n : ℕ) (sel : List ℕ) → length sel ≡ m → (selections_verdict m n sel).code ≡ 0 → Selections m n sel
unfolding selections_verdict too_large
selections_ok m n sel long h = record { long = long; small = λ j hj. leb-false n (get_or sel j 0) (at_first_ok m (too_large n sel) 8 0 (omega arith) h j hj) }

selections-pass : (m n : ℕ) (sel : List ℕ) → Selections m n sel → selections_verdict m n sel ≡ pass
unfolding selections_verdict too_large
selections-pass m n sel s = at_first_none m (too_large n sel) 8 0 (λ j hj. lt-leb n (get_or sel j 0) (s.small j hj))

columns_pass : (mode m : ℕ) (set : List ℕ) (code base : ℕ) → Columns (code_of mode) m set → at_first (k_of mode) (padded m set) code base ≡ pass
columns_pass mode m set code base c = at_first_none (k_of mode) (padded m set) code base (λ i hi. clear_padded m set i (c.clear i (rw (k_of_lem mode) at hi)))

-- ---- the calls

module _ (seeded : Bool) (mode m n l : ℕ) (session first second selections : List ℕ) (message kept : ℕ) where
  pub record PrepareFits : Type 0 where
    pub shape : (shape_verdict mode m n l).code ≡ 0
    pub inputs : Fit (prepare_inputs seeded mode m session first second selections)
    pub outputs : Fit (prepare_outputs mode m message kept)
    pub in_range : Selections m n selections

  pub prepare_ok : (prepare_verdict seeded mode m n l session first second selections message kept).code ≡ 0 → PrepareFits
  unfolding prepare_verdict prepare_lengths
  prepare_ok h =
      let a = or_else_ok _ _ h in
      let b = or_else_ok _ _ a.1 in
      let c = or_else_ok _ _ b.1 in
      let f = both_ok (prepare_inputs seeded mode m session first second selections) (prepare_outputs mode m message kept) b.0 in
      record { shape = a.0; inputs = f.0; outputs = f.1; in_range = selections_ok m n selections f.0.1.1.1.0 c.0 }

  pub prepare_pass : shape_verdict mode m n l ≡ pass → Fit (prepare_inputs seeded mode m session first second selections) → Fit (prepare_outputs mode m message kept)
      → Selections m n selections → (seeded ≡ false → Columns (code_of mode) m first × Columns (code_of mode) m second)
      → prepare_verdict seeded mode m n l session first second selections message kept ≡ pass
  unfolding prepare_verdict prepare_lengths sets_padding
  prepare_pass s f g r c =
      or_else-pass s
      (or_else-pass (both_pass (prepare_inputs seeded mode m session first second selections) (prepare_outputs mode m message kept) f g)
      (or_else-pass (selections-pass m n selections r) (sets seeded refl)))
    where
      sets : (t : Bool) → seeded ≡ t → pick t pass (or_else (at_first (k_of mode) (padded m first) 9 0) (at_first (k_of mode) (padded m second) 9 (k_of mode))) ≡ pass
      sets true e = refl
      sets false e = let h = c e in or_else-pass (columns_pass mode m first 9 0 h.0) (columns_pass mode m second 9 (k_of mode) h.1)

module _ (seeded : Bool) (mode m n l : ℕ) (session secret taken strings columns : List ℕ) (message : ℕ) where
  pub record AnswerFits : Type 0 where
    pub shape : (shape_verdict mode m n l).code ≡ 0
    pub inputs : Fit (answer_inputs seeded mode m n l session secret taken strings)
    pub outputs : Fit (answer_outputs m n l message)
    pub clear : seeded ≡ false → (i : ℕ) → i < k_of mode → Clear m taken i
    pub arrived : (received 3 mode m n l session columns).code ≡ 0

  pub answer_ok : (answer_verdict seeded mode m n l session secret taken strings columns message).code ≡ 0 → AnswerFits
  unfolding answer_verdict answer_lengths taken_padding
  answer_ok h =
      let a = or_else_ok _ _ h in
      let b = or_else_ok _ _ a.1 in
      let c = or_else_ok _ _ b.1 in
      let f = both_ok (answer_inputs seeded mode m n l session secret taken strings) (answer_outputs m n l message) b.0 in
      record {
        shape = a.0;
        inputs = f.0;
        outputs = f.1;
        clear = λ e i hi.
            let z : (at_first (k_of mode) (padded m taken) 9 0).code ≡ 0
            = sym (ap (λ (t : Bool). (pick t pass (at_first (k_of mode) (padded m taken) 9 0)).code) e) ∙ c.0 in
            padded_clear m taken i (at_first_ok (k_of mode) (padded m taken) 9 0 (omega arith) z i hi);
        arrived = c.1;
      }

  pub answer-pass : shape_verdict mode m n l ≡ pass → Fit (answer_inputs seeded mode m n l session secret taken strings) → Fit (answer_outputs m n l message)
      → (seeded ≡ false → Columns (code_of mode) m taken) → received 3 mode m n l session columns ≡ pass
      → answer_verdict seeded mode m n l session secret taken strings columns message ≡ pass
  unfolding answer_verdict answer_lengths taken_padding
  answer-pass s f g c r =
      or_else-pass s
      (or_else-pass (both_pass (answer_inputs seeded mode m n l session secret taken strings) (answer_outputs m n l message) f g)
      (or_else-pass (set seeded refl) r))
    where
      set : (t : Bool) → seeded ≡ t → pick t pass (at_first (k_of mode) (padded m taken) 9 0) ≡ pass
      set true e = refl
      set false e = columns_pass mode m taken 9 0 (c e)

module _ (mode m n l : ℕ) (session selections kept message : List ℕ) (opened : ℕ) where
  pub record OpenFits : Type 0 where
    pub inputs : Fit (open_inputs mode m session selections kept)
    pub in_range : Selections m n selections

  pub open_ok : (open_verdict mode m n l session selections kept message opened).code ≡ 0 → OpenFits
  unfolding open_verdict open_lengths
  open_ok h =
      let a = or_else_ok _ _ h in
      let b = or_else_ok _ _ a.1 in
      let c = or_else_ok _ _ b.1 in
      let f = both_ok (open_inputs mode m session selections kept) (open_outputs m l opened) b.0 in
      record { inputs = f.0; in_range = selections_ok m n selections f.0.1.0 c.0 }

  pub open_pass : shape_verdict mode m n l ≡ pass → Fit (open_inputs mode m session selections kept) → Fit (open_outputs m l opened) → Selections m n selections
      → received 4 mode m n l session message ≡ pass → open_verdict mode m n l session selections kept message opened ≡ pass
  unfolding open_verdict open_lengths
  open_pass s f g r e =
      or_else-pass s
      (or_else-pass (both_pass (open_inputs mode m session selections kept) (open_outputs m l opened) f g) (or_else-pass (selections-pass m n selections r) e))

-- ---- messages

pub drop-message_of : (tag mode m n l : ℕ) (session block : List ℕ) → length session ≡ 12 → drop block_at (message_of tag mode m n l session block) ≡ block
unfolding message_of
drop-message_of tag mode m n l session block h = own_block tag (length block) mode m n l session block (message_of tag mode m n l session block) refl h

-- a message that arrived has the block's length
pub received_long : (tag mode m n l : ℕ) (session message : List ℕ) → (received tag mode m n l session message).code ≡ 0
    → length message ≡ block_at + block_length tag mode m n l
unfolding received_verdict wired.block_verdict
received_long tag mode m n l session message h =
    let a = or_else_ok _ _ (unless_ok _ _ _ _ (omega arith) h).1 in
    let b = or_else_ok _ _ (unless_ok _ _ _ _ (omega arith) a.1).1 in
    let c = unless_ok _ _ _ _ (omega arith) b.1 in
    eqb-true _ _ (unless_ok (eqb (length message) (block_at + block_length tag mode m n l)) _ _ _ (omega arith) c.1).0

-- ---- sets of columns

module _ (mode m : ℕ) (session : List ℕ) where
  pub expanded_is : (seeds : List ℕ) → expanded (k_of mode) m session seeds ≡ expand (code_of mode) m (seed_column session m) seeds
  unfolding expanded expand
  expanded_is seeds = ap (λ (x : ℕ). expanded x m session seeds) (k_of_lem mode)

  pub columns_of_long : (seeded : Bool) (set : List ℕ) → length set ≡ k_of mode * entry_bytes seeded m
      → length (columns_of seeded (k_of mode) m session set) ≡ k (code_of mode) * col_bytes m
  columns_of_long true set h = ap length (expanded_is set) ∙ length-expand (code_of mode) m (seed_column session m) set
  columns_of_long false set h = h ∙ ap (λ (x : ℕ). x * col_bytes m) (k_of_lem mode)

  -- seeds always expand to columns that a call accepts
  pub columns_of_columns : (seeded : Bool) (set : List ℕ) → (seeded ≡ false → Columns (code_of mode) m set)
      → Columns (code_of mode) m (columns_of seeded (k_of mode) m session set)
  columns_of_columns true set c = subst (Columns (code_of mode) m) (sym (expanded_is set)) (expands_clear (code_of mode) m chacha20 session set)
  columns_of_columns false set c = c refl

by_bit_zero : (x a b : ℕ) → a ≡ 0 → b ≡ 0 → by_bit x a b ≡ 0
by_bit_zero zero a b e f = e
by_bit_zero (suc x) a b e f = f

pub select_columns : (C : Code) (m : ℕ) (s a b : List ℕ) → Columns C m a → Columns C m b → Columns C m (select C (col_bytes m) s a b)
select_columns C m s a b ca cb = record {
  long = length-select C (col_bytes m) s a b;
  byte = select_bytes C (col_bytes m) s a b ca.byte cb.byte;
  clear = λ i hi j hm hj. select-bit C (col_bytes m) s a b i j hi hj ∙ by_bit_zero (bit_at s i) _ _ (ca.clear i hi j hm hj) (cb.clear i hi j hm hj);
}
