-- What a verdict of 0 says, of the lengths and of the whole of prepare and open. Assumes nothing.
use mathlib.Core.Path.{◌≡◌, refl, sym, ap, ◌∙◌}
use mathlib.Core.Bool.{Bool, true}
use mathlib.Core.List.{List}
use Prim.Native.Nat.{ℕ, ◌+◌, ◌*◌, ◌/◌, ◌<◌}
use native.Mathlib.Omega.{arith}
use lib.Dec.{eqb}
use lib.ListN.{length, get_or}
use borrow.Author.Tests.{eqb-true, leb-false}
use Rattle.basics.specs.declared.Verdict.{Verdict}
use Rattle.basics.specs.Padding.{col_bytes}
use Rattle.basics.specs.Verdicts.{at_first}
use Rattle.basics.proofs.Verdicts.{unless_ok, or_else_ok, at_first_ok}
use Rattle.wire.specs.Shapes.{k_of, shape_verdict, block_length}
use Rattle.wire.specs.Message.{session_at, block_header_at, block_at, shape_bytes, header_ok}
use Rattle.wire.specs.Received.{differs, block_verdict, received_verdict, received}
use Rattle.wire.proofs.Shapes.{Passes, shape_ok, block_length_strings}
use Rattle.columns.specs.Sets.{entry_bytes, set_fit}
use Rattle.columns.proofs.Sets.{set_fit_holds}
use Rattle.buyer.specs.Selections.{too_large, selections_verdict}
use Rattle.buyer.specs.Prepare.{prepare_lengths, sets_padding, prepare_verdict}
use Rattle.buyer.specs.Open.{open_lengths, open_verdict}

-- the code of a verdict that equals another
code_of_lem : {v w : Verdict} → v ≡ w → v.code ≡ 0 → w.code ≡ 0
code_of_lem e z = sym (ap (λ (x : Verdict). x.code) e) ∙ z

-- ---- lengths

pub record Lengths (seeded : Bool) (mode m session first second selections message kept : ℕ) : Type 0 where
  pub session_long : session ≡ 12
  pub first_long : first ≡ k_of mode * entry_bytes seeded m
  pub second_long : second ≡ k_of mode * entry_bytes seeded m
  pub selections_long : selections ≡ m
  pub message_long : message ≡ block_at + k_of mode * col_bytes m
  pub kept_long : kept ≡ m * (k_of mode / 8)

pub lengths_passed : {v : Verdict} {seeded : Bool} {mode m session first second selections message kept : ℕ}
    → v ≡ prepare_lengths seeded mode m session first second selections message kept → v.code ≡ 0
    → Lengths seeded mode m session first second selections message kept
unfolding prepare_lengths
lengths_passed {v} {seeded} {mode} {m} {session} {first} {second} {selections} {message} {kept} e z =
    let a = unless_ok (eqb session 12) _ _ _ (omega arith) (code_of_lem e z) in
    let b = unless_ok (eqb first (k_of mode * entry_bytes seeded m)) _ _ _ (omega arith) a.1 in
    let d = unless_ok (eqb second (k_of mode * entry_bytes seeded m)) _ _ _ (omega arith) b.1 in
    let f = unless_ok (eqb selections m) _ _ _ (omega arith) d.1 in
    let g = unless_ok (eqb message (block_at + k_of mode * col_bytes m)) _ _ _ (omega arith) f.1 in
    let h = unless_ok (eqb kept (m * (k_of mode / 8))) _ _ _ (omega arith) g.1 in
    record {
      session_long = eqb-true _ _ a.0;
      first_long = eqb-true _ _ b.0;
      second_long = eqb-true _ _ d.0;
      selections_long = eqb-true _ _ f.0;
      message_long = eqb-true _ _ g.0;
      kept_long = eqb-true _ _ h.0;
    }

pub record OpenLengths (mode m l session selections kept opened : ℕ) : Type 0 where
  pub session_long : session ≡ 12
  pub selections_long : selections ≡ m
  pub kept_long : kept ≡ m * (k_of mode / 8)
  pub opened_long : opened ≡ m * l

pub open_lengths_passed : {v : Verdict} {mode m l session selections kept opened : ℕ} → v ≡ open_lengths mode m l session selections kept opened → v.code ≡ 0
    → OpenLengths mode m l session selections kept opened
unfolding open_lengths
open_lengths_passed {v} {mode} {m} {l} {session} {selections} {kept} {opened} e z =
    let a = unless_ok (eqb session 12) _ _ _ (omega arith) (code_of_lem e z) in
    let b = unless_ok (eqb selections m) _ _ _ (omega arith) a.1 in
    let d = unless_ok (eqb kept (m * (k_of mode / 8))) _ _ _ (omega arith) b.1 in
    let f = unless_ok (eqb opened (m * l)) _ _ _ (omega arith) d.1 in
    record {
      session_long = eqb-true _ _ a.0;
      selections_long = eqb-true _ _ b.0;
      kept_long = eqb-true _ _ d.0;
      opened_long = eqb-true _ _ f.0;
    }

-- ---- selections

pub selections_passed : (m n : ℕ) (selections : List ℕ) → (selections_verdict m n selections).code ≡ 0 → (j : ℕ) → j < m → get_or selections j 0 < n
unfolding selections_verdict too_large
selections_passed m n selections z j h = leb-false n (get_or selections j 0) (at_first_ok m (too_large n selections) 8 0 (omega arith) z j h)

-- ---- the whole

pub record Prepares (seeded : Bool) (mode m n l : ℕ) (session first second selections : List ℕ) (message kept : ℕ) : Type 0 where
  pub shape : Passes mode m n l
  pub lengths : Lengths seeded mode m (length session) (length first) (length second) (length selections) message kept
  pub small : (j : ℕ) → j < m → get_or selections j 0 < n
  pub clear : (sets_padding seeded (k_of mode) m first second).code ≡ 0

pub prepare_passed : {v : Verdict} {seeded : Bool} {mode m n l : ℕ} {session first second selections : List ℕ} {message kept : ℕ}
    → v ≡ prepare_verdict seeded mode m n l session first second selections message kept → v.code ≡ 0
    → Prepares seeded mode m n l session first second selections message kept
unfolding prepare_verdict
prepare_passed {v} {seeded} {mode} {m} {n} {l} {session} {first} {second} {selections} {message} {kept} e z =
    let a = or_else_ok (shape_verdict mode m n l) _ (code_of_lem e z) in
    let b = or_else_ok (prepare_lengths seeded mode m (length session) (length first) (length second) (length selections) message kept) _ a.1 in
    let d = or_else_ok (selections_verdict m n selections) _ b.1 in
    record { shape = shape_ok mode m n l a.0; lengths = lengths_passed refl b.0; small = selections_passed m n selections d.0; clear = d.1 }

-- both sets then fit a block of k columns
module _ {seeded : Bool} {mode m n l : ℕ} {session first second selections : List ℕ} {message kept block : ℕ}
    (z : Prepares seeded mode m n l session first second selections message kept) (h : block ≡ k_of mode * col_bytes m) where
  pub first_fits : set_fit seeded (k_of mode) m (length session) (length first) block ≡ true
  first_fits =
      set_fit_holds seeded (k_of mode) m _ _ _
      (record { some = z.shape.rows-some; few = z.shape.rows_few; session_long = z.lengths.session_long; set_long = z.lengths.first_long; block_long = h })

  pub second_fits : set_fit seeded (k_of mode) m (length session) (length second) block ≡ true
  second_fits =
      set_fit_holds seeded (k_of mode) m _ _ _
      (record { some = z.shape.rows-some; few = z.shape.rows_few; session_long = z.lengths.session_long; set_long = z.lengths.second_long; block_long = h })

pub record Opens (mode m n l : ℕ) (session selections kept message : List ℕ) (opened : ℕ) : Type 0 where
  pub shape : Passes mode m n l
  pub lengths : OpenLengths mode m l (length session) (length selections) (length kept) opened
  pub small : (j : ℕ) → j < m → get_or selections j 0 < n
  pub arrived : (received 4 mode m n l session message).code ≡ 0

pub open_passed : {v : Verdict} {mode m n l : ℕ} {session selections kept message : List ℕ} {opened : ℕ}
    → v ≡ open_verdict mode m n l session selections kept message opened → v.code ≡ 0 → Opens mode m n l session selections kept message opened
unfolding open_verdict
open_passed {v} {mode} {m} {n} {l} {session} {selections} {kept} {message} {opened} e z =
    let a = or_else_ok (shape_verdict mode m n l) _ (code_of_lem e z) in
    let b = or_else_ok (open_lengths mode m l (length session) (length selections) (length kept) opened) _ a.1 in
    let d = or_else_ok (selections_verdict m n selections) _ b.1 in
    record { shape = shape_ok mode m n l a.0; lengths = open_lengths_passed refl b.0; small = selections_passed m n selections d.0; arrived = d.1 }

-- the received message is as long as its shape says
received_long : (tag len mode m n l : ℕ) (session message : List ℕ) → (received_verdict tag len mode m n l session message).code ≡ 0 → length message ≡ block_at + len
unfolding received_verdict block_verdict
received_long tag len mode m n l session message z =
    let a = unless_ok (header_ok message 0 1 6) _ _ _ (omega arith) z in
    let b = or_else_ok (at_first 6 (differs message 3 (shape_bytes mode m n l)) 11 0) _ a.1 in
    let d = unless_ok (header_ok message session_at 2 12) _ _ _ (omega arith) b.1 in
    let f = or_else_ok (at_first 12 (differs message (session_at + 3) session) 12 0) _ d.1 in
    let g = unless_ok (header_ok message block_header_at tag len) _ _ _ (omega arith) f.1 in
    eqb-true _ _ (unless_ok (eqb (length message) (block_at + len)) _ _ _ (omega arith) g.1).0

pub strings_long : (mode m n l : ℕ) (session message : List ℕ) → (received 4 mode m n l session message).code ≡ 0 → length message ≡ block_at + m * n * l
strings_long mode m n l session message z = received_long 4 (block_length 4 mode m n l) mode m n l session message z ∙ ap (λ (x : ℕ). block_at + x) (block_length_strings mode m n l)
