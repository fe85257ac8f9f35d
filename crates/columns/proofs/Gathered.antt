-- Laws of gathering: the loop that gives each row one byte, and the loop over the bytes of a row. Assumes nothing.
use mathlib.Core.Path.{◌≡◌, refl, sym, ap, ap₂, ◌∙◌}
use mathlib.Core.Bool.{true}
use mathlib.Core.List.{List}
use Prim.Native.Nat.{ℕ, ◌+◌, ◌-◌, ◌*◌, ◌/◌, ◌%◌, ◌≤◌, ◌<◌}
use native.Mathlib.Nat.{mod-lt, div-add-mod', div-lt_iff_lt-mul, add-mul, mul_assoc, mul-add-mod_self_right, mul-le-mul_right}
use native.Mathlib.Decide.{ℕ_discrete, dec_lt}
use native.Mathlib.Omega.{arith}
use lib.ListN.{length, get_or, take, drop, set, length-set, length-take, length-drop}
use lib.Seq.{ext_get_or, get_or-set_same, get_or-set_other, get_or-take, get_or-drop}
use lib.Arith.{digits_lt, digits_div, digits_mod}
use lib.Dec.{eqb}
use borrow.Rule.Slice.PartMut.{put_mid, same_len_mid}
use borrow.Author.Count.{below_more}
use borrow.Author.Tests.{eq-eqb, ne_eqb, eqb-true, lt-ltb, ltb-true}
use Rattle.basics.specs.Choice.{pick}
use Rattle.basics.specs.Bytes.{build, pack, bit, bit_in, lines}
use Rattle.basics.specs.Padding.{col_bytes}
use Rattle.basics.proofs.Choice.{both, picked, unpicked}
use Rattle.basics.proofs.Bytes.{length-build, get_or-build, pack_ext, pos_right, lines_byte}
use Rattle.basics.proofs.Fill.{put_before, put_inside, put-after}
use Rattle.columns.specs.Gathered.{gathered, given, joined, eight_fit, joined_over, rows_fit}

-- ---- rows of `width` bytes in which the first j have f at their byte g, and which hold what they held at every other byte

pub record Given (f : ℕ → ℕ) (width g j : ℕ) (old now : List ℕ) : Type 0 where
  pub long : length now ≡ length old
  pub new : (i : ℕ) → i < j → get_or now (i * width + g) 0 ≡ f i
  pub same : (p : ℕ) → (p % width ≡ g → p / width < j → ⊥) → get_or now p 0 ≡ get_or old p 0

pub given_none : (f : ℕ → ℕ) (width g : ℕ) (old : List ℕ) → Given f width g 0 old old
given_none f width g old = record { long = refl; new = λ i h. absurd (omega arith); same = λ p h. refl }

pub given_more : {f : ℕ → ℕ} {width g j at v : ℕ} {old now : List ℕ} → Given f width g j old now → g < width → at ≡ j * width + g → at < length old
    → v ≡ f j → Given f width g (j + 1) old (set now at v)
given_more {f} {width} {g} {j} {at} {v} {old} {now} z hg ha hl hv = record {
  long = length-set now at v ∙ z.long;
  new = below_more (λ (i : ℕ). get_or (set now at v) (i * width + g) 0 ≡ f i) j
      (λ i h.
      get_or-set_other now at (i * width + g) v 0
      (λ e. let same : i ≡ j = sym (digits_div i hg) ∙ ap (λ (p : ℕ). p / width) (e ∙ ha) ∙ digits_div j hg in omega arith)
      ∙ z.new i h)
      (ap (λ (p : ℕ). get_or (set now at v) p 0) (sym ha) ∙ get_or-set_same now at v 0 (omega (arith, z.long)) ∙ hv);
  same = λ p h. get_or-set_other now at p v 0
      (λ e.
      let row : p / width ≡ j = ap (λ (x : ℕ). x / width) (e ∙ ha) ∙ digits_div j hg in
      h (ap (λ (x : ℕ). x % width) (e ∙ ha) ∙ digits_mod j hg) (omega arith))
      ∙ z.same p (λ e l. h e (omega arith));
}

pub given_end : {f : ℕ → ℕ} {m width g : ℕ} {old now : List ℕ} → Given f width g m old now → g < width → length old ≡ m * width → now ≡ given width g f old
unfolding given
given_end {f} {m} {width} {g} {old} {now} z hg hl =
    ext_get_or 0 now (build (length old) new) (z.long ∙ sym (length-build (length old) new))
    (λ p h. let hp : p < length old = omega (arith, z.long) in at_place p hp (ℕ_discrete (p % width) g) ∙ sym (get_or-build (length old) new p hp))
  where
    new : ℕ → ℕ
    new p = pick (eqb (p % width) g) (f (p / width)) (get_or old p 0)

    at_place : (p : ℕ) → p < length old → Dec (p % width ≡ g) → get_or now p 0 ≡ new p
    at_place p hp (yes e) =
        let row : p / width < m = (div-lt_iff_lt-mul {k = width} (omega arith)).1 (omega arith) in
        let split : p ≡ p / width * width + g = sym (div-add-mod' p width) ∙ ap (λ (x : ℕ). p / width * width + x) e in
        ap (λ (x : ℕ). get_or now x 0) split ∙ z.new (p / width) row ∙ sym (picked _ _ (eq-eqb (p % width) g e))
    at_place p hp (no n) = z.same p (λ e l. n e) ∙ sym (unpicked _ _ (ne_eqb (p % width) g n))

-- k rows from row j on, lent as a part of n bytes from a, each of which took its byte g
pub given_part : (k : ℕ) {f u : ℕ → ℕ} {width g j a n : ℕ} {old now ys : List ℕ} → Given f width g j old now → g < width → a ≡ j * width → n ≡ k * width
    → a + n ≤ length old → ((i : ℕ) → i < k → u i ≡ f (j + i)) → ys ≡ given width g u (take n (drop a now)) → Given f width g (j + k) old (put_mid a n now ys)
unfolding given
given_part k {f} {u} {width} {g} {j} {a} {n} {old} {now} {ys} z hg ha hn hl hu hy = record {
  long = same_len_mid a n now ys (hylen ∙ sym part) ∙ z.long;
  new = λ i h. row i h (dec_lt i j);
  same = λ p h. other p h (dec_lt p a) (dec_lt p (a + n));
}
  where
    part : length (take n (drop a now)) ≡ n
    part = simp (length-take, length-drop) (omega (arith, z.long))

    hylen : length ys ≡ n
    hylen = ap length hy ∙ length-build (length (take n (drop a now))) _ ∙ part

    fits : a + n ≤ length now
    fits = omega (arith, z.long)

    held : (b : ℕ) → b < n → get_or (take n (drop a now)) b 0 ≡ get_or now (a + b) 0
    held b h = get_or-take n (drop a now) b 0 h ∙ get_or-drop a now b 0

    -- byte b of the part
    here : (b : ℕ) → b < n → get_or (put_mid a n now ys) (a + b) 0 ≡ pick (eqb (b % width) g) (u (b / width)) (get_or now (a + b) 0)
    here b h =
        put_inside a n now ys fits hylen b h ∙ ap (λ (s : List ℕ). get_or s b 0) hy ∙ get_or-build (length (take n (drop a now))) _ b (omega (arith, part))
        ∙ ap (pick (eqb (b % width) g) (u (b / width))) (held b h)

    row : (i : ℕ) → i < j + k → Dec (i < j) → get_or (put_mid a n now ys) (i * width + g) 0 ≡ f i
    row i h (yes l) = put_before a n now ys fits hylen (i * width + g) (omega (arith, digits_lt l hg)) ∙ z.new i l
    row i h (no l) =
        let rest : j + (i - j) ≡ i = omega arith in
        let inner : i - j < k = omega arith in
        let b : ℕ = (i - j) * width + g in
        let hb : b < n = omega (arith, digits_lt inner hg) in
        let place : i * width + g ≡ a + b = sym (ap (λ (x : ℕ). x * width + g) rest) ∙ omega (arith, add-mul j (i - j) width) in
        ap (λ (p : ℕ). get_or (put_mid a n now ys) p 0) place ∙ here b hb
        ∙ ap₂ (λ (x y : ℕ). pick (eqb x g) (u y) (get_or now (a + b) 0)) (digits_mod (i - j) hg) (digits_div (i - j) hg)
        ∙ picked _ _ (eq-eqb g g refl) ∙ hu (i - j) inner ∙ ap f rest

    other : (p : ℕ) → (p % width ≡ g → p / width < j + k → ⊥) → Dec (p < a) → Dec (p < a + n) → get_or (put_mid a n now ys) p 0 ≡ get_or old p 0
    other p h (yes l) d = put_before a n now ys fits hylen p l ∙ z.same p (λ e r. h e (omega arith))
    other p h (no l) (yes r) =
        let split : a + (p - a) ≡ p = omega arith in
        let low : (p - a) % width ≡ p % width
        = sym (mul-add-mod_self_right j width (p - a)) ∙ ap (λ (x : ℕ). (x + (p - a)) % width) (sym ha) ∙ ap (λ (x : ℕ). x % width) split in
        let within : p / width < j + k = (div-lt_iff_lt-mul {k = width} (omega arith)).1 (omega (arith, add-mul j k width)) in
        ap (λ (x : ℕ). get_or (put_mid a n now ys) x 0) (sym split) ∙ here (p - a) (omega arith)
        ∙ unpicked _ _ (ne_eqb ((p - a) % width) g (λ e. h (sym low ∙ e) within))
        ∙ ap (λ (x : ℕ). get_or now x 0) split ∙ z.same p (λ e s. h e within)
    other p h (no l) (no r) =
        let split : a + (n + (p - (a + n))) ≡ p = omega arith in
        ap (λ (x : ℕ). get_or (put_mid a n now ys) x 0) (sym split) ∙ put-after a n now ys fits hylen (p - (a + n))
        ∙ ap (λ (x : ℕ). get_or now x 0) split ∙ z.same p (λ e s. h e (omega arith))

-- row j's byte g lies within m rows
pub row_at : (m width g j : ℕ) → j < m → g < width → j * width + g < m * width
row_at m width g j hj hg = digits_lt hj hg

-- j rows and k more take no more than m rows do
rows-within : (m width j k : ℕ) → j + k ≤ m → j * width + k * width ≤ m * width
rows-within m width j k h = rw (← add-mul) (mul-le-mul_right width h)

-- ---- m rows, eight at a time, and last those that are fewer: the first 8 b have f at their byte g, and the next ones begin at a

-- eight rows of w bytes on, in the code's own w
pub eight_next : (b width : ℕ) {w a : ℕ} → w ≡ width → a ≡ b * 8 * width → a + 8 * w ≡ (b + 1) * 8 * width
eight_next b width hw ha = omega (arith, add-mul (b * 8) 8 width)

module _ (m b : ℕ) {width w a : ℕ} (hw : w ≡ width) (ha : a ≡ b * 8 * width) where
  -- eight rows more stand in the rows
  pub eight_within : b < m / 8 → a + 8 * w ≤ m * width
  eight_within h = omega (arith, rows-within m width (b * 8) 8 (omega arith))

  -- after the last eight the others go to the end
  pub eight_left : b ≡ m / 8 → a + m % 8 * width ≡ m * width
  eight_left h =
      let all : b * 8 + m % 8 ≡ m = omega arith in
      omega (arith, add-mul (b * 8) (m % 8) width, ap (λ (x : ℕ). x * width) all)

  module _ {f u : ℕ → ℕ} {g : ℕ} {old now ys : List ℕ} (z : Given f width g (b * 8) old now) (hg : g < width) (hl : length old ≡ m * width)
      (hu : (i : ℕ) → i < 8 → u i ≡ f (b * 8 + i)) where
    -- eight rows more took their byte g
    pub eight_more : b < m / 8 → ys ≡ given w g u (take (a + 8 * w - a) (drop a now)) → Given f width g ((b + 1) * 8) old (put_mid a (a + 8 * w - a) now ys)
    eight_more h hy =
        let size : a + 8 * w - a ≡ 8 * width = omega arith in
        let more : b * 8 + 8 ≡ (b + 1) * 8 = omega arith in
        let part : List ℕ = take (a + 8 * w - a) (drop a now) in
        rw more at (given_part 8 z hg ha size (omega (arith, eight_within h)) hu (hy ∙ ap (λ (x : ℕ). given x g u part) hw))

    -- the rows that are left took theirs
    pub eight_rest : b ≡ m / 8 → ys ≡ given w g u (take (length now - a) (drop a now)) → Given f width g m old (put_mid a (length now - a) now ys)
    eight_rest h hy =
        let left = eight_left h in
        let all : b * 8 + m % 8 ≡ m = omega arith in
        let size : length now - a ≡ m % 8 * width = omega (arith, z.long) in
        let part : List ℕ = take (length now - a) (drop a now) in
        rw all at (given_part (m % 8) z hg ha size (omega (arith, z.long)) (λ i l. hu i (omega arith)) (hy ∙ ap (λ (x : ℕ). given x g u part) hw))

-- ---- rows that have the bytes of `new` below byte g, and those of `old` from it on

pub record Rowed (width g : ℕ) (new old now : List ℕ) : Type 0 where
  pub long : length now ≡ length old
  pub below : (p : ℕ) → p < length old → p % width < g → get_or now p 0 ≡ get_or new p 0
  pub rest : (p : ℕ) → p < length old → g ≤ p % width → get_or now p 0 ≡ get_or old p 0

pub rowed_none : (width : ℕ) (new : List ℕ) {old now : List ℕ} → now ≡ old → Rowed width 0 new old now
rowed_none width new e = record { long = ap length e; below = λ p l h. absurd (omega arith); rest = λ p l h. ap (λ (s : List ℕ). get_or s p 0) e }

pub rowed_more : (m : ℕ) (f : ℕ → ℕ) {width g : ℕ} {new old now next : List ℕ} → Rowed width g new old now → g < width → length old ≡ m * width
    → next ≡ given width g f now → ((j : ℕ) → j < m → f j ≡ get_or new (j * width + g) 0) → Rowed width (g + 1) new old next
unfolding given
rowed_more m f {width} {g} {new} {old} {now} {next} z hg hl hn hf = record {
  long = ap length hn ∙ length-build (length now) _ ∙ z.long;
  below = λ p l h. byte p l ∙ side p l h (ℕ_discrete (p % width) g);
  rest = λ p l h. byte p l ∙ unpicked _ _ (ne_eqb (p % width) g (λ e. omega arith)) ∙ z.rest p l (omega arith);
}
  where
    byte : (p : ℕ) → p < length old → get_or next p 0 ≡ pick (eqb (p % width) g) (f (p / width)) (get_or now p 0)
    byte p l = ap (λ (s : List ℕ). get_or s p 0) hn ∙ get_or-build (length now) _ p (omega (arith, z.long))

    side : (p : ℕ) → p < length old → p % width < g + 1 → Dec (p % width ≡ g) → pick (eqb (p % width) g) (f (p / width)) (get_or now p 0) ≡ get_or new p 0
    side p l h (yes e) =
        let row : p / width < m = (div-lt_iff_lt-mul {k = width} (omega arith)).1 (omega arith) in
        let split : p / width * width + g ≡ p = ap (λ (x : ℕ). p / width * width + x) (sym e) ∙ div-add-mod' p width in
        picked _ _ (eq-eqb (p % width) g e) ∙ hf (p / width) row ∙ ap (λ (x : ℕ). get_or new x 0) split
    side p l h (no n) = unpicked _ _ (ne_eqb (p % width) g n) ∙ z.below p l (omega arith)

pub rowed_end : (m : ℕ) {width g : ℕ} {new old now : List ℕ} → Rowed width g new old now → width ≤ g → length old ≡ m * width → length new ≡ m * width → now ≡ new
rowed_end m {width} {g} {new} {old} {now} z hg hl hn =
    ext_get_or 0 now new (z.long ∙ hl ∙ sym hn)
    (λ p h. let l : p < m * width = omega (arith, z.long) in z.below p (omega arith) (omega (arith, mod-lt p (pos_right p m width l))))

-- column e of eight columns that were lent from column g * 8 on
lent_at : (g c e x : ℕ) → g * (8 * c) + (e * c + x) ≡ (g * 8 + e) * c + x
lent_at g c e x = let p = add-mul (g * 8) e c in let q = mul_assoc g 8 c in omega arith

-- what eight columns give that are those of a set from column g * 8 on
pub gathered_lent : (c g j : ℕ) (cols eight : List ℕ) → j / 8 < c → ((p : ℕ) → p < 8 * c → get_or eight p 0 ≡ get_or cols (g * (8 * c) + p) 0)
    → gathered c eight j ≡ pack 8 (λ e. bit_in c cols (g * 8 + e) j)
gathered_lent c g j cols eight hj h =
    pack_ext 8 _ _
    (λ e he. ap (λ (x : ℕ). bit x (j % 8)) (h (e * c + j / 8) (digits_lt he hj) ∙ ap (λ (p : ℕ). get_or cols p 0) (lent_at g c e (j / 8))))

-- they give the row's byte
pub gathered-row : (m width g : ℕ) (cols eight : List ℕ) → g < width → eight ≡ take (8 * col_bytes m) (drop (g * (8 * col_bytes m)) cols) → (j : ℕ) → j < m
    → gathered (col_bytes m) eight j ≡ get_or (lines m width (λ j i. bit_in (col_bytes m) cols i j)) (j * width + g) 0
gathered-row m width g cols eight hg he j hj =
    gathered_lent (col_bytes m) g j cols eight (omega arith)
    (λ p h. ap (λ (s : List ℕ). get_or s p 0) he ∙ get_or-take _ (drop (g * (8 * col_bytes m)) cols) p 0 h ∙ get_or-drop _ cols p 0)
    ∙ sym (lines_byte m width _ j g hj hg)

-- ---- what the guards say

pub record EightFit (m width g eight others old : ℕ) : Type 0 where
  pub eight_long : eight ≡ 8 * col_bytes m
  pub others_long : others ≡ 8 * col_bytes m
  pub rows_long : old ≡ m * width
  pub place : g < width

pub eight_fit_passed : (m width g eight others old : ℕ) → eight_fit m width g eight others old ≡ true → EightFit m width g eight others old
eight_fit_passed m width g eight others old e =
    let (a, r) = both _ _ e in
    let (b, t) = both _ _ r in
    let (c, d) = both _ _ t in
    record { eight_long = eqb-true _ _ a; others_long = eqb-true _ _ b; rows_long = eqb-true _ _ c; place = ltb-true _ _ d }

-- what a caller learns where the lengths fit
pub joined_fits : (m width g keep : ℕ) (eight others old : List ℕ) → EightFit m width g (length eight) (length others) (length old)
    → joined_over m width g keep eight others old ≡ given width g (joined (col_bytes m) keep eight others) old
unfolding joined_over
joined_fits m width g keep eight others old f =
    picked {t = eight_fit m width g (length eight) (length others) (length old)} _ _
    (simp (eq-eqb (length eight) (8 * col_bytes m) f.eight_long, eq-eqb (length others) (8 * col_bytes m) f.others_long, eq-eqb (length old) (m * width) f.rows_long, lt-ltb g width f.place))

pub rows_fit_passed : (width m columns old : ℕ) → rows_fit width m columns old ≡ true → (columns ≡ width * (8 * col_bytes m)) × (old ≡ m * width)
rows_fit_passed width m columns old e =
    let (a, b) = both _ _ e in (eqb-true _ _ a ∙ mul_assoc width 8 (col_bytes m), eqb-true _ _ b)

pub rows_fit_holds : (width m columns old : ℕ) → columns ≡ width * (8 * col_bytes m) → old ≡ m * width → rows_fit width m columns old ≡ true
rows_fit_holds width m columns old a b = simp (eq-eqb columns (width * 8 * col_bytes m) (a ∙ sym (mul_assoc width 8 (col_bytes m))), eq-eqb old (m * width) b)
