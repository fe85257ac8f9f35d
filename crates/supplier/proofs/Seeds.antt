-- Document 01, section 5: the form from seeds gives what the other gives on the expanded columns. Assumes nothing.
use mathlib.Core.Path.{◌≡◌, refl, sym, ap, ap₂}
use mathlib.Core.Bool.{Bool, true, false}
use mathlib.Core.List.{List}
use Prim.Native.Nat.{ℕ, ◌+◌, ◌*◌, ◌/◌}
use lib.Dec.{eqb}
use lib.ListN.{length}
use Rattle.basics.specs.declared.Verdict.{Verdict}
use Rattle.basics.specs.Verdicts.{pass, unless, or_else}
use Rattle.wire.specs.Shapes.{k_of, shape_verdict}
use Rattle.wire.specs.Message.{block_at}
use Rattle.wire.specs.Received.{received}
use Rattle.columns.specs.Sets.{expanded}
use Rattle.columns.proofs.Sets.{expanded_passes, expanded_fits}
use Rattle.supplier.specs.Answer.{answer_lengths, taken_padding, answer_verdict, taken_rows, answer_message, Answered}

module _ (mode m n l : ℕ) (session secret seeds strings columns : List ℕ) where
  abbrev T : List ℕ
  T = expanded (k_of mode) m session seeds

  module _ (h : length seeds ≡ k_of mode * 32) (message : ℕ) where
    same_lengths : answer_lengths true mode m n l (length session) (length secret) (length seeds) (length strings) message
        ≡ answer_lengths false mode m n l (length session) (length secret) (length T) (length strings) message
    unfolding answer_lengths
    same_lengths =
        ap
        (λ (x : Bool). unless (eqb (length session) 12) 6 1 (unless (eqb (length secret) (k_of mode / 8)) 6 2 (unless x 6 3
        (unless (eqb (length strings) (m * n * l)) 6 4 (unless (eqb message (block_at + m * n * l)) 7 1 pass)))))
        (expanded_fits (k_of mode) m session seeds h)

    -- the verdicts are the same
    pub seeds_verdict : answer_verdict true mode m n l session secret seeds strings columns message ≡ answer_verdict false mode m n l session secret T strings columns message
    unfolding answer_verdict taken_padding
    seeds_verdict =
        ap₂ (λ (a b : Verdict). or_else (shape_verdict mode m n l) (or_else a (or_else b (received 3 mode m n l session columns)))) same_lengths (sym (expanded_passes (k_of mode) m 0 session seeds))

  -- and so are the messages
  pub seeds_message : answer_message true mode m n l session secret seeds strings columns ≡ answer_message false mode m n l session secret T strings columns
  unfolding answer_message taken_rows
  seeds_message = refl

  -- what the form from seeds gives back is what the other gives back on the expanded columns
  pub seeds_answered : {old now : List ℕ} {r : Verdict} → length seeds ≡ k_of mode * 32 → Answered true mode m n l session secret seeds strings columns old r now
      → Answered false mode m n l session secret T strings columns old r now
  seeds_answered {old} h p = rw (sym (seeds_verdict h (length old)), sym seeds_message) p
