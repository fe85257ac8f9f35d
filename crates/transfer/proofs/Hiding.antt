-- Demand 3, from the construction's `hides` and demand 2: a message that answering accepts is a header and a set of columns, and so is what preparing
-- gives. Assumes nothing.
use mathlib.Core.Path.{◌≡◌, refl, sym, ap, ap₂, ◌∙◌}
use mathlib.Core.Bool.{Bool, false}
use mathlib.Core.List.{List, ◌++◌}
use Prim.Native.Nat.{ℕ, ◌+◌, ◌*◌, ◌/◌}
use lib.ListN.{length, drop}
use lib.Seq.{get_or-drop}
use Rattle.basics.specs.declared.Verdict.{Verdict}
use Rattle.basics.specs.Bytes.{Bytes}
use Rattle.basics.specs.Padding.{col_bytes}
use Rattle.basics.specs.Verdicts.{pass}
use Rattle.basics.proofs.Verdicts.{gives_passed}
use Rattle.words.specs.Code.{code_of}
use Rattle.construction.specs.Transfer as transfer
use Rattle.construction.specs.Transfer.{Columns, Selections, select}
use Rattle.construction.specs.Demands.{Hidden}
use Rattle.construction.proofs.Bytewise.{length-select, length-kept, length-masking}
use Rattle.construction.proofs.Demands.{hides}
use Rattle.columns.specs.Sets.{columns_of, entry_bytes}
use Rattle.pads.specs.Pads.{pad_bytes}
use Rattle.wire.specs.Shapes.{k_of, shape_verdict, block_length}
use Rattle.wire.specs.Message.{block_at, header, message_of}
use Rattle.wire.specs.Received.{received}
use Rattle.wire.proofs.Received.{Received, received_ok}
use Rattle.buyer.specs.Prepare.{column_block, column_message}
use Rattle.columns.proofs.Sizes.{k_of_lem, row_of}
use Rattle.supplier.specs.Answer.{masked_strings, answer_message, Answered}
use Rattle.transfer.specs.Demands.{Behind, Demand3}
use Rattle.transfer.proofs.Decided.{decided_zero}
use Rattle.transfer.proofs.Rules.{shape_decided}
use Rattle.transfer.proofs.Passed.{AnswerFits, prepare_pass, open_pass, columns_of_columns, select_columns}
use Rattle.transfer.proofs.Opening.{answered_fits, prepared_block, prepared_rows, opened_rows_lem, answered_block, code_zero, strings_arrive}

module _ (seeded : Bool) (mode m n l : ℕ) (session secret taken strings message answer₀ : List ℕ) {r : Verdict} {answer : List ℕ}
    (g : Answered seeded mode m n l session secret taken strings message answer₀ r answer) (z : r.code ≡ 0) (bt : Bytes taken) (bm : Bytes message) where
  fits : AnswerFits seeded mode m n l session secret taken strings message (length answer₀)
  fits = answered_fits seeded mode m n l session secret taken strings message answer₀ g z

  own_columns : Columns (code_of mode) m (columns_of seeded (k_of mode) m session taken)
  own_columns =
      columns_of_columns mode m session seeded taken
      (λ e. record {
        long = fits.inputs.1.1.0 ∙ ap (λ (t : Bool). k_of mode * entry_bytes t m) e ∙ ap (λ (x : ℕ). x * col_bytes m) (k_of_lem mode);
        byte = bt;
        clear = λ i hi. fits.clear e i (rw (k_of_lem mode) hi);
      })

  arrived : Received 3 (k_of mode * col_bytes m) mode m n l session message
  unfolding block_length
  arrived = received_ok 3 (k_of mode * col_bytes m) mode m n l session message bm fits.inputs.0 fits.arrived

  block_columns : Columns (code_of mode) m (drop block_at message)
  block_columns = record {
    long = arrived.block_long ∙ ap (λ (x : ℕ). x * col_bytes m) (k_of_lem mode);
    byte = λ p. rw (get_or-drop block_at message p 0) (bm (block_at + p));
    clear = λ i hi. arrived.clear refl i (rw (k_of_lem mode) hi);
  }

  -- the message is the one that its block gives
  message_of_lem : message_of 3 mode m n l session (drop block_at message) ≡ message
  unfolding message_of
  message_of_lem = ap (λ (x : ℕ). header 3 x mode m n l session ++ drop block_at message) arrived.block_long ∙ sym arrived.sent

  module _ (selections : List ℕ) (s : Selections m n selections) where
    hidden : Hidden (code_of mode) (pad_bytes session l) m n l secret strings (columns_of seeded (k_of mode) m session taken) (drop block_at message) selections
    hidden = hides (code_of mode) (pad_bytes session l) m n l secret strings (columns_of seeded (k_of mode) m session taken) (drop block_at message) selections own_columns block_columns s

    -- the buyer's two sets, with a choice of the columns that the supplier did not take
    shape : shape_verdict mode m n l ≡ pass
    shape = decided_zero (shape_decided mode m n l) fits.shape

    set_long : (a b : List ℕ) → length (select (code_of mode) (col_bytes m) secret a b) ≡ k_of mode * col_bytes m
    set_long a b = length-select (code_of mode) (col_bytes m) secret a b ∙ ap (λ (x : ℕ). x * col_bytes m) (sym (k_of_lem mode))

    pub behind : Behind mode m n l session secret strings (columns_of seeded (k_of mode) m session taken) message answer selections
    unfolding column_message column_block answer_message masked_strings
    behind = record {
      untaken = hidden.untaken;
      columns = hidden.columns;
      sends = λ message₀ kept₀ r' message' kept f p.
          let e : r' ≡ pass
          = p.sent.verdict
          ∙ prepare_pass false mode m n l session _ _ selections _ _ shape (fits.inputs.0, (set_long _ _, (set_long _ _, (s.long, tt)))) f s
          (λ _. (select_columns (code_of mode) m secret _ _ own_columns hidden.columns, select_columns (code_of mode) m secret _ _ hidden.columns own_columns)) in
          (e, gives_passed p.sent (code_zero e) ∙ ap (message_of 3 mode m n l session) hidden.sends ∙ message_of_lem);
      only = λ other c message₀ kept₀ r' message' kept p y e. hidden.only other c (sym (prepared_block p y) ∙ ap (drop block_at) e);
      opens = λ message₀ kept₀ r' message' kept p y opened₀ r'' opened f o.
          let long : length kept ≡ m * (k_of mode / 8)
          = ap length (prepared_rows p y) ∙ length-kept (code_of mode) m _ selections ∙ ap (λ (x : ℕ). m * x) (sym (row_of mode)) in
          let e : r'' ≡ pass
          = o.verdict
          ∙ open_pass mode m n l session selections kept answer _ shape (fits.inputs.0, (s.long, (long, tt))) f s
          (ap (received 4 mode m n l session) (gives_passed g z)
          ∙ strings_arrive mode m n l session _ fits.inputs.0 (length-masking (code_of mode) (pad_bytes session l) m n l secret _ strings)) in (
            e,
            opened_rows_lem mode m n l session selections kept answer opened₀ o (code_zero e)
                ∙ ap₂ (transfer.opened (code_of mode) (pad_bytes session l) m n l selections) (prepared_rows p y)
                (answered_block seeded mode m n l session secret taken strings message answer₀ g z) ∙ hidden.opens,
          );
    }

pub demand_3 : Demand3
demand_3 seeded mode m n l session secret taken strings message answer₀ r answer g z bt bm selections s =
    behind seeded mode m n l session secret taken strings message answer₀ g z bt bm selections s
