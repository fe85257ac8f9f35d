-- Document 01, section 5: the form from seeds gives what the other gives on the expanded columns. Assumes nothing.
use mathlib.Core.Path.{◌≡◌, refl, sym, ap₂}
use mathlib.Core.Bool.{Bool, true, false}
use mathlib.Core.List.{List}
use Prim.Native.Nat.{ℕ, ◌+◌, ◌*◌, ◌/◌}
use lib.Dec.{eqb}
use lib.ListN.{length}
use Rattle.basics.specs.declared.Verdict.{Verdict}
use Rattle.basics.specs.Padding.{col_bytes}
use Rattle.basics.specs.Verdicts.{pass, unless, or_else}
use Rattle.wire.specs.Shapes.{k_of, shape_verdict}
use Rattle.wire.specs.Message.{block_at}
use Rattle.columns.specs.Sets.{expanded}
use Rattle.columns.proofs.Sets.{expanded_passes, expanded_fits}
use Rattle.buyer.specs.Selections.{selections_verdict}
use Rattle.buyer.specs.Prepare.{prepare_lengths, sets_padding, prepare_verdict, column_block, column_message, kept_rows, Prepared}

module _ (mode m n l : ℕ) (session first second selections : List ℕ) where
  abbrev U : List ℕ
  U = expanded (k_of mode) m session first

  abbrev W : List ℕ
  W = expanded (k_of mode) m session second

  no_padding : sets_padding false (k_of mode) m U W ≡ pass
  unfolding sets_padding or_else
  no_padding = ap₂ or_else (expanded_passes (k_of mode) m 0 session first) (expanded_passes (k_of mode) m (k_of mode) session second)

  module _ (hf : length first ≡ k_of mode * 32) (hs : length second ≡ k_of mode * 32) (message kept : ℕ) where
    same_lengths : prepare_lengths true mode m (length session) (length first) (length second) (length selections) message kept
        ≡ prepare_lengths false mode m (length session) (length U) (length W) (length selections) message kept
    unfolding prepare_lengths
    same_lengths =
        ap₂
        (λ (x y : Bool). unless (eqb (length session) 12) 6 1 (unless x 6 2 (unless y 6 3 (unless (eqb (length selections) m) 6 4
        (unless (eqb message (block_at + k_of mode * col_bytes m)) 7 1 (unless (eqb kept (m * (k_of mode / 8))) 7 2 pass))))))
        (expanded_fits (k_of mode) m session first hf) (expanded_fits (k_of mode) m session second hs)

    -- the verdicts are the same
    pub seeds_verdict : prepare_verdict true mode m n l session first second selections message kept ≡ prepare_verdict false mode m n l session U W selections message kept
    unfolding prepare_verdict sets_padding
    seeds_verdict =
        ap₂ (λ (a b : Verdict). or_else (shape_verdict mode m n l) (or_else a (or_else (selections_verdict m n selections) b))) same_lengths (sym no_padding)

  -- and so are the outputs
  pub seeds_message : column_message true mode m n l session first second selections ≡ column_message false mode m n l session U W selections
  unfolding column_message column_block
  seeds_message = refl

  pub seeds_rows : kept_rows true mode m session second selections ≡ kept_rows false mode m session W selections
  unfolding kept_rows
  seeds_rows = refl

  -- what the form from seeds gives back is what the other gives back on the expanded columns
  pub seeds_prepared : {message kept message' kept' : List ℕ} {r : Verdict} → length first ≡ k_of mode * 32 → length second ≡ k_of mode * 32
      → Prepared true mode m n l session first second selections message kept r message' kept'
      → Prepared false mode m n l session U W selections message kept r message' kept'
  seeds_prepared {message} {kept} {message'} {kept'} {r} hf hs p =
      let v = seeds_verdict hf hs (length message) (length kept) in
      record { sent = rw (sym v, sym seeds_message) p.sent; rows = rw (sym v, sym seeds_rows) p.rows }
