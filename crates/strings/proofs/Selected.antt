-- Laws of the selected strings: what the guard says, one row's part, and what a caller uses. Assumes nothing.
use mathlib.Core.Path.{◌≡◌, sym, ap, ap₂, ◌∙◌}
use mathlib.Core.Bool.{true}
use mathlib.Core.List.{List}
use Prim.Native.Nat.{ℕ, ◌+◌, ◌*◌, ◌/◌, ◌%◌, ◌≤◌, ◌<◌}
use native.Mathlib.Nat.{add-mul, mul_assoc, mod-lt}
use native.Mathlib.Omega.{arith}
use lib.Arith.{digits_lt, digits_div, digits_mod}
use lib.ListN.{length, get_or, take, drop, length-take, length-drop}
use lib.Seq.{get_or-take}
use borrow.Author.Tests.{eqb-true, leb-true, eq-eqb, le-leb}
use Rattle.basics.specs.Bytes.{build, line}
use Rattle.basics.proofs.Bytes.{get_or-build, build_is, build_ext, get_or-line, pos_right}
use Rattle.basics.proofs.Choice.{both, picked}
use Rattle.strings.specs.Selected.{selected, select_fit, selected_over, Fits}

pub fit_passed : (m n l selections strings old : ℕ) → m < 65536 → l < 256 → select_fit m n l selections strings old ≡ true → Fits m n l selections strings old
fit_passed m n l selections strings old hm hl e =
    let (a, b) = both _ _ e in
    let (c, d) = both _ _ b in
    let (f, g) = both _ _ d in
    let (i, j) = both _ _ g in
    let (p, q) = both _ _ j in
    record {
      rows_few = hm;
      places_some = leb-true _ _ a;
      places_few = leb-true _ _ c;
      bytes_some = leb-true _ _ f;
      bytes_few = hl;
      selections_long = eqb-true _ _ i;
      strings_long = eqb-true _ _ p;
      old_long = eqb-true _ _ q;
    }

-- the front of a workspace, by its bytes
pub front_built : (l k : ℕ) (work : List ℕ) (f : ℕ → ℕ) → k ≡ l → l ≤ length work → ((t : ℕ) → t < l → get_or work t 0 ≡ f t) → take k (drop 0 work) ≡ build l f
front_built l k work f hk h e =
    sym
    (build_is l f (take k (drop 0 work)) (simp (length-take, length-drop) (omega arith))
    (λ t ht. sym (get_or-take k (drop 0 work) t 0 (omega arith) ∙ e t ht)))

-- ---- byte p of the selected strings

module _ (n l : ℕ) (selections strings : List ℕ) where
  abbrev pub selected_at : ℕ → ℕ
  selected_at p = get_or (line (n * l) strings (p / l)) (get_or selections (p / l) 0 * l + p % l) 0

  -- row j's part
  pub row-selected : (j a : ℕ) {row : List ℕ} → a ≡ j * l → row ≡ line (n * l) strings j
      → build l (λ t. get_or row (get_or selections j 0 * l + t) 0) ≡ build l (λ t. selected_at (a + t))
  row-selected j a {row} ha hr =
      build_ext l _ _
      (λ t h.
      ap (λ (s : List ℕ). get_or s (get_or selections j 0 * l + t) 0) hr
      ∙ ap₂ (λ (x y : ℕ). get_or (line (n * l) strings x) (get_or selections x 0 * l + y) 0) (sym (digits_div j h)) (sym (digits_mod j h))
      ∙ ap (λ (x : ℕ). selected_at (x + t)) (sym ha))

  pub rows-selected : (m : ℕ) {now : List ℕ} → now ≡ build (m * l) selected_at → now ≡ selected m n l selections strings
  unfolding selected
  rows-selected m e = e

-- where the selections are in range
pub selected_byte : (m n l : ℕ) (selections strings : List ℕ) (p : ℕ) → p < m * l → get_or selections (p / l) 0 < n
    → get_or (selected m n l selections strings) p 0 ≡ get_or strings ((p / l * n + get_or selections (p / l) 0) * l + p % l) 0
unfolding selected
selected_byte m n l selections strings p hp hr =
    let r : ℕ = get_or selections (p / l) 0 in
    get_or-build (m * l) (selected_at n l selections strings) p hp
    ∙ get_or-line (n * l) strings (p / l) (r * l + p % l) (digits_lt hr (mod-lt p (pos_right p m l hp)))
    ∙ ap (λ (x : ℕ). get_or strings x 0)
    (let q : p / l * (n * l) + (r * l + p % l) ≡ (p / l * n + r) * l + p % l = omega (arith, add-mul (p / l * n) r l, mul_assoc (p / l) n l) in q)

-- and where numbers and lengths fit
fit_holds : {m n l selections strings old : ℕ} → Fits m n l selections strings old → select_fit m n l selections strings old ≡ true
fit_holds {m} {n} {l} {selections} {strings} {old} z =
    simp (
      le-leb 1 n z.places_some,
      le-leb n 256 z.places_few,
      le-leb 1 l z.bytes_some,
      eq-eqb selections m z.selections_long,
      eq-eqb strings (m * n * l) z.strings_long,
      eq-eqb old (m * l) z.old_long,
    )

pub selected_over_fits : (m n l : ℕ) (selections strings old : List ℕ) → Fits m n l (length selections) (length strings) (length old)
    → selected_over m n l selections strings old ≡ selected m n l selections strings
unfolding selected_over
selected_over_fits m n l selections strings old z = picked _ _ (fit_holds z)
