-- Laws of the shape: bounds of k and of the block's length, and what a shape that passed says. Assumes nothing.
use mathlib.Core.Path.{◌≡◌, refl, sym, ap, ◌∙◌}
use mathlib.Core.Bool.{Bool, true, false}
use Prim.Native.Nat.{ℕ, ◌*◌, ◌/◌, ◌^◌, ◌≤◌, ◌<◌}
use native.Mathlib.Omega.{arith}
use lib.Dec.{eqb, leb}
use borrow.Author.Tests.{leb-true}
use Rattle.basics.specs.declared.Verdict.{Verdict}
use Rattle.basics.specs.Choice.{pick}
use Rattle.basics.specs.Padding.{col_bytes}
use Rattle.basics.specs.Verdicts.{pass}
use Rattle.basics.proofs.Bytes.{mul_le_both}
use Rattle.basics.proofs.Verdicts.{unless_ok, unless_zero}
use Rattle.basics.proofs.Choice.{both}
use Rattle.wire.specs.Shapes.{k_of, most_places, within, most_rows, most_bytes, most_volume, shape_verdict, block_length, Width}

-- ---- k

pub width : (mode : ℕ) → Width mode (k_of mode)
unfolding k_of
width mode = record { is = refl; low = low (eqb mode 2); high = high (eqb mode 2); whole = whole (eqb mode 2) }
  where
    low : (b : Bool) → 128 ≤ pick b 256 128
    low true = omega arith
    low false = omega arith

    high : (b : Bool) → pick b 256 128 ≤ 256
    high true = omega arith
    high false = omega arith

    whole : (b : Bool) → pick b 256 128 / 8 * 8 ≡ pick b 256 128
    whole true = refl
    whole false = refl

-- ---- a shape that passed

pub within_true : (low x high : ℕ) → within low x high ≡ true → (low ≤ x) × (x ≤ high)
within_true low x high h =
    let b = both (leb low x) (leb x high) h in
    (leb-true low x b.0, leb-true x high b.1)

pub record Passes (mode m n l : ℕ) : Type 0 where
  pub mode_low : 1 ≤ mode
  pub mode_high : mode ≤ 2
  pub rows-some : 1 ≤ m
  pub rows_few : m ≤ 1024
  pub places_some : 2 ≤ n
  pub places_few : n ≤ 256
  pub places_mode : n ≤ most_places mode
  pub pairs : mode ≡ 1 → n ≡ 2
  pub bytes_some : 1 ≤ l
  pub bytes_few : l ≤ 32
  pub volume : m * n * l ≤ 32768
  -- c, and the block's length for both tags
  pub column-some : 1 ≤ col_bytes m
  pub column_few : col_bytes m ≤ 128
  pub column-rows : m ≤ col_bytes m * 8
  pub block_few : k_of mode * col_bytes m ≤ 32768

pub shape_ok : (mode m n l : ℕ) → (shape_verdict mode m n l).code ≡ 0 → Passes mode m n l
unfolding shape_verdict
shape_ok mode m n l h =
    let v1 = unless_ok (within 1 mode 2) _ _ _ (omega arith) h in
    let v2 = unless_ok (within 1 m most_rows) _ _ _ (omega arith) v1.1 in
    let v3 = unless_ok (within 2 n (most_places mode)) _ _ _ (omega arith) v2.1 in
    let v4 = unless_ok (within 1 l most_bytes) _ _ _ (omega arith) v3.1 in
    let v5 = unless_ok (leb (m * n * l) most_volume) _ _ _ (omega arith) v4.1 in
    let w1 = within_true 1 mode 2 v1.0 in
    let w2 = within_true 1 m most_rows v2.0 in
    let w3 = within_true 2 n (most_places mode) v3.0 in
    let w4 = within_true 1 l most_bytes v4.0 in
    let some : 1 ≤ m = w2.0 in
    let few : m ≤ 1024 = w2.1 in
    record {
      mode_low = w1.0;
      mode_high = w1.1;
      rows-some = some;
      rows_few = few;
      places_some = w3.0;
      places_few = bound (eqb mode 2) w3.1;
      places_mode = w3.1;
      pairs = λ e. two w3.0 (pair e w3.1);
      bytes_some = w4.0;
      bytes_few = w4.1;
      volume = leb-true (m * n * l) most_volume v5.0;
      column-some = omega arith;
      column_few = omega arith;
      column-rows = omega arith;
      block_few = mul_le_both (k_of mode) (col_bytes m) 256 128 (width mode).high (omega arith);
    }
  where
    bound : (b : Bool) → n ≤ pick b 256 2 → n ≤ 256
    bound true h = h
    bound false h = omega arith

    pair : mode ≡ 1 → n ≤ most_places mode → n ≤ 2
    pair e h = rw e at h

    two : 2 ≤ n → n ≤ 2 → n ≡ 2
    two a b = omega arith

pub shape_zero : (mode m n l : ℕ) → (shape_verdict mode m n l).code ≡ 0 → shape_verdict mode m n l ≡ pass
unfolding shape_verdict
shape_zero mode m n l =
    unless_zero _ 1 0 _ (omega arith)
    (unless_zero _ 2 0 _ (omega arith)
    (unless_zero _ 3 0 _ (omega arith)
    (unless_zero _ 4 0 _ (omega arith)
    (unless_zero _ 5 0 _ (omega arith) (λ _. refl)))))

-- the same from a call's answer
pub shape_passed : {v : Verdict} {mode m n l : ℕ} → v ≡ shape_verdict mode m n l → v.code ≡ 0 → Passes mode m n l
shape_passed {v} {mode} {m} {n} {l} e z = shape_ok mode m n l (sym (ap (λ (x : Verdict). x.code) e) ∙ z)

-- ---- the block's length

pub block_length_columns : (mode m n l : ℕ) → block_length 3 mode m n l ≡ k_of mode * col_bytes m
unfolding block_length
block_length_columns mode m n l = refl

pub block_length_strings : (mode m n l : ℕ) → block_length 4 mode m n l ≡ m * n * l
unfolding block_length
block_length_strings mode m n l = refl

-- for any numbers at their widths on the wire it is far below what a usize holds
pub block_length_small : (tag mode m n l : ℕ) → m < 65536 → n < 65536 → l < 256 → block_length tag mode m n l < 2 ^ 40
unfolding block_length
block_length_small tag mode m n l hm hn hl = cases (eqb tag 3)
  where
    cases : (b : Bool) → pick b (k_of mode * col_bytes m) (m * n * l) < 2 ^ 40
    cases true = let h = mul_le_both (k_of mode) (col_bytes m) 256 8192 (width mode).high (omega arith) in omega arith
    cases false =
        let mn = mul_le_both m n 65535 65535 (omega arith) (omega arith) in
        let mnl = mul_le_both (m * n) l 4294836225 255 (omega arith) (omega arith) in
        omega arith
