-- Laws of D, eight rows at a time: how the table of their bytes is doubled, and the loops that add it. Assumes nothing.
use mathlib.Core.Path.{◌≡◌, refl, sym, ap, ap₂, ◌∙◌}
use mathlib.Core.Bool.{Bool, true, false}
use mathlib.Core.List.{List, ◌++◌}
use Prim.Native.Nat.{ℕ, zero, suc, ◌+◌, ◌-◌, ◌*◌, ◌/◌, ◌%◌, ◌^◌, ◌≤◌, ◌<◌, min}
use native.Mathlib.Nat.{mod-lt, div-add-mod', div-lt_iff_lt-mul, add-zero, zero-add, zero-lt-suc, one-mul, mul-le-mul_right, pow-suc, mod-eq_of_lt, lt_of_le_of_lt, lt_of_lt_of_le}
use native.Mathlib.Decide.{ℕ_discrete, dec_lt}
use native.Mathlib.Numerals.{add-one}
use native.Mathlib.Omega.{arith}
use lib.Arith.{digits_div, digits_mod}
use lib.Bits.{bit_xor, bit_and, differ, and_zero_l, and_zero_r}
use lib.Dec.{eqb, ltb}
use lib.ListN.{length, get_or, take, drop, set, length-set, length-drop, take-append-drop, get_or-eq_default}
use lib.Pow.{pow_pos, pow_mono}
use lib.Seq.{get_or-set_same, get_or-set_other, take_at, take_all, get_or-take, get_or-drop}
use borrow.Author.Tests.{eq-eqb, ne_eqb, lt-ltb, le-ltb}
use Rattle.basics.specs.Choice.{pick}
use Rattle.basics.specs.Bytes.{build, pack, bit, ◌⊕◌}
use Rattle.basics.specs.Padding.{col_bytes}
use Rattle.basics.proofs.Bits.{pack-append}
use Rattle.basics.proofs.Bytes.{length-build, get_or-build, build_is, build_ext, pack_ext, pack_small, xor-pack, pos_right, bit_small}
use Rattle.basics.proofs.Choice.{picked}
use Rattle.basics.proofs.Fill.{Filled, filled_none, filled_more}
use Rattle.words.specs.Code.{Code, k, pairs, choices, code_of, parity, parity_digit, pair_digit}
use Rattle.words.proofs.Parity.{parity_low, parity_high, parity_small, differ_zero}
use Rattle.construction.specs.Transfer.{chosen}
use Rattle.construction.proofs.Bytewise.{chosen_byte}
use Rattle.columns.proofs.Turned.{differ_small}
use Rattle.buyer.specs.Chosen.{place_byte, Begins, added_bytes}

-- ---- words

-- place 2 ^ t + x differs from place x by a digit that is the same for every x below 2 ^ t: places 2 ^ t and 0 tell it
abbrev Turned : Code → Type 0
Turned C = (r t x : ℕ) → x < 2 ^ t → C.word r (2 ^ t + x) ≡ differ (C.word r x) (differ (C.word r (2 ^ t)) (C.word r 0))

differ_self : (x : ℕ) → x < 2 → differ x x ≡ 0
differ_self zero h = refl
differ_self (suc zero) h = refl
differ_self (suc (suc x)) h = absurd (omega arith)

differ_comm : (x y : ℕ) → x < 2 → y < 2 → differ x y ≡ differ y x
differ_comm zero y hx hy = sym (differ_zero y)
differ_comm (suc zero) zero hx hy = refl
differ_comm (suc zero) (suc zero) hx hy = refl
differ_comm (suc zero) (suc (suc y)) hx hy = absurd (omega arith)
differ_comm (suc (suc x)) y hx hy = absurd (omega arith)

pairs-turned : Turned pairs
pairs-turned r t x h = sym (ap (differ (min r 1)) (differ_self (min r 1) (pair_digit r)) ∙ differ_zero (min r 1))

choices-turned : Turned choices
choices-turned r t x h =
    let none : parity (bit_and r 0) ≡ 0 = ap parity (and_zero_r r) ∙ parity_small 0 (zero-lt-suc 1) in
    let low : parity (bit_and (r % 2 ^ t) 0) ≡ 0 = ap parity (and_zero_r (r % 2 ^ t)) ∙ parity_small 0 (zero-lt-suc 1) in
    let one : parity (bit_and r (2 ^ t)) ≡ bit r t =
    ap (λ (y : ℕ). parity (bit_and r y)) (sym (add-zero (2 ^ t))) ∙ parity_high t r (pow_pos t) ∙ ap (differ (bit r t)) low ∙ differ_zero (bit r t) in
    parity_high t r h ∙ ap (differ (bit r t)) (sym (parity_low t r h))
    ∙ differ_comm (bit r t) (parity (bit_and r x)) (bit_small r t) (parity_digit (bit_and r x))
    ∙ ap (differ (parity (bit_and r x))) (sym (ap₂ differ one none ∙ differ_zero (bit r t)))

pub turned : (mode : ℕ) → Turned (code_of mode)
unfolding code_of
turned mode = cases (eqb mode 2)
  where
    cases : (b : Bool) → Turned (pick b choices pairs)
    cases true = choices-turned
    cases false = pairs-turned

-- word 0 is zero at every place
pub word_zero : (mode i : ℕ) → (code_of mode).word 0 i ≡ 0
unfolding code_of
word_zero mode i = cases (eqb mode 2)
  where
    cases : (b : Bool) → (pick b choices pairs).word 0 i ≡ 0
    cases true = ap parity (and_zero_l i) ∙ parity_small 0 (zero-lt-suc 1)
    cases false = refl

-- ---- eight rows

module _ (mode : ℕ) (sel : List ℕ) (j : ℕ) where
  pub place_turned : (t x : ℕ) → x < 2 ^ t
      → place_byte (code_of mode) sel j (2 ^ t + x)
      ≡ bit_xor (place_byte (code_of mode) sel j x) (bit_xor (place_byte (code_of mode) sel j (2 ^ t)) (place_byte (code_of mode) sel j 0))
  unfolding place_byte
  place_turned t x h =
      let f : ℕ → ℕ → ℕ = λ i e. (code_of mode).word (get_or sel (j + e) 0) i in
      let small : (i e : ℕ) → f i e < 2 = λ i e. (code_of mode).digit (get_or sel (j + e) 0) i in
      pack_ext 8 (f (2 ^ t + x)) (λ e. differ (f x e) (differ (f (2 ^ t) e) (f 0 e))) (λ e l. turned mode (get_or sel (j + e) 0) t x h)
      ∙ sym (ap (bit_xor (pack 8 (f x))) (xor-pack 8 (f (2 ^ t)) (f 0) (small (2 ^ t)) (small 0))
      ∙ xor-pack 8 (f x) (λ e. differ (f (2 ^ t) e) (f 0 e)) (small x) (λ e. differ_small (f (2 ^ t) e) (f 0 e) (small (2 ^ t) e) (small 0 e)))

-- place i of the word that row x selects
abbrev pub row_place : Code → List ℕ → ℕ → ℕ → ℕ
row_place C sel i x = C.word (get_or sel x 0) i

-- one more place above those of the first e rows leaves a byte, whichever row it is of
pub place_fits : (C : Code) (sel : List ℕ) (i e : ℕ) {byte place : ℕ} → byte ≡ pack e (row_place C sel i) → e < 8 → place < 2 → byte + place * 2 ^ e % 256 < 256
place_fits C sel i e {byte} {place} hb he hp =
    let below : pack e (row_place C sel i) < 2 ^ e = pack_small e (row_place C sel i) (λ x. C.digit _ _) in
    let most : place * 2 ^ e ≤ 1 * 2 ^ e = mul-le-mul_right (2 ^ e) (omega arith) in
    let half : 2 ^ e ≤ 2 ^ 7 = pow_mono {j = 7} (omega arith) in
    omega arith

-- one more row's place, above those of the first e rows
pub place_more : (C : Code) (sel : List ℕ) (i e : ℕ) {byte r place : ℕ} → byte ≡ pack e (row_place C sel i) → e < 8
    → r ≡ get_or sel e 0 → place ≡ C.word r i
    → (byte + place * 2 ^ e % 256 ≡ pack (e + 1) (row_place C sel i)) × (byte + place * 2 ^ e % 256 < 256)
unfolding pack
place_more C sel i e {byte} {r} {place} hb he hr hp =
    let f : ℕ → ℕ = row_place C sel i in
    let here : place ≡ f e = hp ∙ ap (λ (x : ℕ). C.word x i) hr in
    let one : pack 1 (λ x. f (e + x)) ≡ f e = zero-add (f (e + 0)) ∙ ap f (add-zero e) in
    let all : pack (e + 1) f ≡ f e * 2 ^ e + pack e f = pack-append e 1 f ∙ ap (λ (x : ℕ). x * 2 ^ e + pack e f) one in
    let few : pack (e + 1) f < 256 = lt_of_lt_of_le (pack_small (e + 1) f (λ x. C.digit _ _)) (pow_mono {j = 8} (omega arith)) in
    let whole : place * 2 ^ e ≡ f e * 2 ^ e = ap (λ (x : ℕ). x * 2 ^ e) here in
    let kept : place * 2 ^ e % 256 ≡ place * 2 ^ e = mod-eq_of_lt (omega arith) in
    (omega arith, place_fits C sel i e hb he (omega (arith, C.digit r i)))

-- all eight
pub places_all : (C : Code) (sel : List ℕ) (i : ℕ) {byte e : ℕ} → byte ≡ pack e (row_place C sel i) → e ≡ 8 → byte ≡ place_byte C sel 0 i
unfolding place_byte
places_all C sel i h e =
    h ∙ ap (λ (n : ℕ). pack n (row_place C sel i)) e ∙ pack_ext 8 _ _ (λ x l. ap (row_place C sel i) (sym (zero-add x)))

-- the rows from row j on, as a part of all
pub places_from : (C : Code) (sel : List ℕ) (j i : ℕ) → place_byte C (take (length sel - j) (drop j sel)) 0 i ≡ place_byte C sel j i
unfolding place_byte
places_from C sel j i =
    pack_ext 8 _ _
    (λ x l.
    ap (λ (r : ℕ). C.word r i)
    (ap (λ (s : List ℕ). get_or s (0 + x) 0) (take_all (length sel - j) (drop j sel) (omega (arith, length-drop j sel)))
    ∙ get_or-drop j sel (0 + x) 0 ∙ ap (λ (n : ℕ). get_or sel (j + n) 0) (zero-add x)))

pub k_some : (mode : ℕ) → 0 < k (code_of mode)
unfolding code_of
k_some mode = cases (eqb mode 2)
  where
    cases : (b : Bool) → 0 < k (pick b choices pairs)
    cases true = omega arith
    cases false = omega arith

-- ---- the table, by its front

-- the code's 2 ^ t
pub half_is : (t : ℕ) → t < 8 → ((1 * 2 ^ t) % 2 ^ 64 ≡ 2 ^ t) × (2 ^ t ≤ 128)
half_is t h =
    let few : 2 ^ t ≤ 2 ^ 7 = pow_mono {j = 7} (omega arith) in
    (ap (λ (x : ℕ). x % 2 ^ 64) (one-mul (2 ^ t)) ∙ mod-eq_of_lt (lt_of_le_of_lt few (let q : 2 ^ 7 < 2 ^ 64 = omega arith in q)), few)

-- a front of f's is a loop's beginning, and each further byte is f's
pub filled_front : {f : ℕ → ℕ} {i n : ℕ} {s : List ℕ} → i ≡ n → n ≤ length s → take n s ≡ build n f → Filled f i s s
filled_front {f} {i} {n} {s} q h e =
    rw q (let z : Filled f n s s = record { within = h; long = refl; holds = sym (take-append-drop n s) ∙ ap (λ (x : List ℕ). x ++ drop n s) e } in z)

pub filled_step : {f : ℕ → ℕ} {i i' v : ℕ} {old now : List ℕ} → Filled f i old now → i' ≡ i + 1 → i < length old → v ≡ f i → Filled f i' old (set now i v)
filled_step z e h hv = rw e (filled_more z h hv)

pub front_filled : {f : ℕ → ℕ} {i n : ℕ} {old now : List ℕ} → Filled f i old now → i ≡ n → take n now ≡ build n f
front_filled {f} {i} {n} {old} {now} z e =
    ap (λ (s : List ℕ). take n s) z.holds ∙ ap (λ (x : ℕ). take x (build i f ++ drop i old)) (sym e)
    ∙ take_at (build i f) (drop i old) i (length-build i f) ∙ ap (λ (x : ℕ). build x f) e

-- the first byte, and twice as many
pub begins_one : (C : Code) (sel : List ℕ) (j v : ℕ) (s : List ℕ) → length s ≡ 256 → v ≡ place_byte C sel j 0 → Begins C sel j (2 ^ 0) (set s 0 v)
begins_one C sel j v s h e = record {
  long = length-set s 0 v ∙ h;
  front = front_filled (filled_more (filled_none (place_byte C sel j) s) (omega arith) e) refl;
}

pub begins_twice : {C : Code} {sel s : List ℕ} {j : ℕ} (t : ℕ) → Begins C sel j (2 ^ t + 2 ^ t) s → Begins C sel j (2 ^ (t + 1)) s
begins_twice {C} {sel} {s} {j} t z = rw (let e : 2 ^ (t + 1) ≡ 2 ^ t + 2 ^ t = ap (λ (x : ℕ). 2 ^ x) (add-one t) ∙ pow-suc 2 t ∙ omega arith in e) z

pub begins_at : {C : Code} {sel s : List ℕ} {j n : ℕ} → Begins C sel j n s → (i : ℕ) → i < n → get_or s i 0 ≡ place_byte C sel j i
begins_at {C} {sel} {s} {j} {n} z i h =
    sym (get_or-take n s i 0 h) ∙ ap (λ (x : List ℕ). get_or x i 0) z.front ∙ get_or-build n (place_byte C sel j) i h

-- ---- the columns after f was added to byte b of the first i

same_test : (x i : ℕ) → (x ≡ i → ⊥) → ltb x i ≡ ltb x (i + 1)
same_test x i n = side (dec_lt x i)
  where
    side : Dec (x < i) → ltb x i ≡ ltb x (i + 1)
    side (yes h) = lt-ltb x i h ∙ sym (lt-ltb x (i + 1) (omega arith))
    side (no h) = le-ltb x i (omega arith) ∙ sym (le-ltb x (i + 1) (past (ℕ_discrete x i)))
      where
        past : Dec (x ≡ i) → i + 1 ≤ x
        past (yes e) = absurd (n e)
        past (no q) = omega arith

pick_same : {A : Type 0} (t : Bool) (x : A) → pick t x x ≡ x
pick_same true x = refl
pick_same false x = refl

abbrev added_at : (ℕ → ℕ) → ℕ → ℕ → ℕ → List ℕ → ℕ → ℕ
added_at f c b i old p = pick (eqb (p % c) b) (pick (ltb (p / c) i) (bit_xor (get_or old p 0) (f (p / c))) (get_or old p 0)) (get_or old p 0)

pub record Added (f : ℕ → ℕ) (c b i : ℕ) (old now : List ℕ) : Type 0 where
  pub long : length now ≡ length old
  pub byte : (p : ℕ) → get_or now p 0 ≡ added_at f c b i old p

pub added_none : (f : ℕ → ℕ) (c b : ℕ) (old : List ℕ) → Added f c b 0 old old
added_none f c b old = record {
  long = refl;
  byte = λ p. sym
      (ap (λ (t : Bool). pick (eqb (p % c) b) (pick t (bit_xor (get_or old p 0) (f (p / c))) (get_or old p 0)) (get_or old p 0)) (le-ltb (p / c) 0 (omega arith))
      ∙ pick_same (eqb (p % c) b) (get_or old p 0));
}

module _ {f : ℕ → ℕ} {c b i at v : ℕ} {old now : List ℕ} (z : Added f c b i old now) (hb : b < c) (ha : at ≡ i * c + b) (hl : at < length old) (hv : v ≡ bit_xor (get_or now at 0) (f i)) where
  at-mod : at % c ≡ b
  at-mod = ap (λ (p : ℕ). p % c) ha ∙ digits_mod i hb

  at-div : at / c ≡ i
  at-div = ap (λ (p : ℕ). p / c) ha ∙ digits_div i hb

  here : v ≡ added_at f c b (i + 1) old at
  here =
      hv
      ∙ ap (λ (x : ℕ). bit_xor x (f i))
      (z.byte at ∙ picked _ _ (eq-eqb (at % c) b at-mod)
      ∙ ap (λ (t : Bool). pick t (bit_xor (get_or old at 0) (f (at / c))) (get_or old at 0)) (le-ltb (at / c) i (omega (arith, at-div))))
      ∙ sym (picked _ _ (eq-eqb (at % c) b at-mod) ∙ picked _ _ (lt-ltb (at / c) (i + 1) (omega (arith, at-div))) ∙ ap (λ (x : ℕ). bit_xor (get_or old at 0) (f x)) at-div)

  elsewhere : (p : ℕ) → (p ≡ at → ⊥) → added_at f c b i old p ≡ added_at f c b (i + 1) old p
  elsewhere p n = side (ℕ_discrete (p % c) b)
    where
      side : Dec (p % c ≡ b) → added_at f c b i old p ≡ added_at f c b (i + 1) old p
      side (yes e) =
          ap (λ (t : Bool). pick (eqb (p % c) b) (pick t (bit_xor (get_or old p 0) (f (p / c))) (get_or old p 0)) (get_or old p 0))
          (same_test (p / c) i (λ q. n (sym (div-add-mod' p c) ∙ ap₂ (λ (x y : ℕ). x * c + y) q e ∙ sym ha)))
      side (no q) =
          let unchanged : (x : ℕ) → pick (eqb (p % c) b) x (get_or old p 0) ≡ get_or old p 0 = λ x. ap (λ (t : Bool). pick t x (get_or old p 0)) (ne_eqb (p % c) b q) in
          unchanged (pick (ltb (p / c) i) (bit_xor (get_or old p 0) (f (p / c))) (get_or old p 0))
          ∙ sym (unchanged (pick (ltb (p / c) (i + 1)) (bit_xor (get_or old p 0) (f (p / c))) (get_or old p 0)))

  pub added_more : Added f c b (i + 1) old (set now at v)
  added_more = record { long = length-set now at v ∙ z.long; byte = λ p. at_place p (ℕ_discrete p at) }
    where
      at_place : (p : ℕ) → Dec (p ≡ at) → get_or (set now at v) p 0 ≡ added_at f c b (i + 1) old p
      at_place p (yes e) =
          ap (λ (x : ℕ). get_or (set now at v) x 0) e ∙ get_or-set_same now at v 0 (omega (arith, z.long)) ∙ here ∙ ap (added_at f c b (i + 1) old) (sym e)
      at_place p (no n) = get_or-set_other now at p v 0 n ∙ z.byte p ∙ elsewhere p n

pub added_end : {f : ℕ → ℕ} {c b i k : ℕ} {old now : List ℕ} → Added f c b i old now → k ≤ i → length old ≡ k * c → now ≡ added_bytes c b f old
unfolding added_bytes
added_end {f} {c} {b} {i} {k} {old} {now} z h hl =
    sym
    (build_is (length old) _ now z.long
    (λ p hp.
    let column : p / c < k = (div-lt_iff_lt-mul (pos_right p k c (omega arith))).1 (omega arith) in
    sym
    (z.byte p
    ∙ ap (λ (t : Bool). pick (eqb (p % c) b) (pick t (bit_xor (get_or old p 0) (f (p / c))) (get_or old p 0)) (get_or old p 0)) (lt-ltb (p / c) i (omega arith)))))

-- the bytes added may be given in two ways
pub added_ext : (c b k : ℕ) (f g : ℕ → ℕ) (old : List ℕ) → length old ≡ k * c → ((i : ℕ) → i < k → f i ≡ g i) → added_bytes c b f old ≡ added_bytes c b g old
unfolding added_bytes
added_ext c b k f g old hl h =
    build_ext (length old) _ _
    (λ p hp.
    ap (λ (x : ℕ). pick (eqb (p % c) b) (bit_xor (get_or old p 0) x) (get_or old p 0))
    (h (p / c) ((div-lt_iff_lt-mul (pos_right p k c (omega arith))).1 (omega arith))))

-- ---- the columns after d was added to their bytes below b

abbrev below_at : List ℕ → ℕ → ℕ → List ℕ → ℕ → ℕ
below_at d c b old p = pick (ltb (p % c) b) (bit_xor (get_or old p 0) (get_or d p 0)) (get_or old p 0)

pub record Below (d : List ℕ) (c b : ℕ) (old now : List ℕ) : Type 0 where
  pub long : length now ≡ length old
  pub byte : (p : ℕ) → p < length old → get_or now p 0 ≡ below_at d c b old p

pub below_none : (d : List ℕ) (c : ℕ) (old : List ℕ) → Below d c 0 old old
below_none d c old = record {
  long = refl;
  byte = λ p h. sym (ap (λ (t : Bool). pick t (bit_xor (get_or old p 0) (get_or d p 0)) (get_or old p 0)) (le-ltb (p % c) 0 (omega arith)));
}

pub below_more : {d : List ℕ} {c b : ℕ} {old now next : List ℕ} (f : ℕ → ℕ) → Below d c b old now → next ≡ added_bytes c b f now
    → ((p : ℕ) → p < length old → p % c ≡ b → f (p / c) ≡ get_or d p 0) → Below d c (b + 1) old next
unfolding added_bytes
below_more {d} {c} {b} {old} {now} {next} f z e h = record {
  long = ap length e ∙ length-build (length now) _ ∙ z.long;
  byte = λ p hp.
      ap (λ (s : List ℕ). get_or s p 0) e ∙ get_or-build (length now) _ p (omega (arith, z.long)) ∙ at_place p hp (ℕ_discrete (p % c) b);
}
  where
    at_place : (p : ℕ) → p < length old → Dec (p % c ≡ b)
        → pick (eqb (p % c) b) (bit_xor (get_or now p 0) (f (p / c))) (get_or now p 0) ≡ below_at d c (b + 1) old p
    at_place p hp (yes q) =
        picked _ _ (eq-eqb (p % c) b q)
        ∙ ap₂ bit_xor (z.byte p hp ∙ ap (λ (t : Bool). pick t (bit_xor (get_or old p 0) (get_or d p 0)) (get_or old p 0)) (le-ltb (p % c) b (omega arith))) (h p hp q)
        ∙ sym (picked _ _ (lt-ltb (p % c) (b + 1) (omega arith)))
    at_place p hp (no n) =
        ap (λ (t : Bool). pick t (bit_xor (get_or now p 0) (f (p / c))) (get_or now p 0)) (ne_eqb (p % c) b n)
        ∙ z.byte p hp ∙ ap (λ (t : Bool). pick t (bit_xor (get_or old p 0) (get_or d p 0)) (get_or old p 0)) (same_test (p % c) b n)

pub below_end : {d : List ℕ} {c b : ℕ} (k : ℕ) {old now : List ℕ} → Below d c b old now → c ≤ b → length old ≡ k * c → now ≡ old ⊕ d
unfolding ◌⊕◌
below_end {d} {c} {b} k {old} {now} z h hl =
    sym
    (build_is (length old) _ now z.long
    (λ p hp.
    let place : p % c < c = mod-lt p (pos_right p k c (omega arith)) in
    sym (z.byte p hp ∙ picked _ _ (lt-ltb (p % c) b (omega arith)))))

-- ---- D

module _ (mode m : ℕ) (sel : List ℕ) (hs : length sel ≡ m) where
  -- a row that there is not has selection 0, whose word is zero
  pub chosen_places : (i b : ℕ) → i < k (code_of mode) → b < col_bytes m
      → get_or (chosen (code_of mode) m sel) (i * col_bytes m + b) 0 ≡ place_byte (code_of mode) sel (b * 8) i
  unfolding place_byte
  chosen_places i b hi hb = chosen_byte (code_of mode) m sel i b hi hb ∙ pack_ext 8 _ _ (λ e h. row (b * 8 + e) (dec_lt (b * 8 + e) m))
    where
      row : (j : ℕ) → Dec (j < m) → pick (ltb j m) ((code_of mode).word (get_or sel j 0) i) 0 ≡ (code_of mode).word (get_or sel j 0) i
      row j (yes h) = picked _ _ (lt-ltb j m h)
      row j (no h) =
          ap (λ (t : Bool). pick t ((code_of mode).word (get_or sel j 0) i) 0) (le-ltb j m (omega arith))
          ∙ sym (ap (λ (r : ℕ). (code_of mode).word r i) (get_or-eq_default sel 0 {n = j} (omega arith)) ∙ word_zero mode i)

  -- byte p of D, where p stands at byte b of its column
  pub chosen_at : (b p : ℕ) → p < k (code_of mode) * col_bytes m → p % col_bytes m ≡ b
      → place_byte (code_of mode) sel (b * 8) (p / col_bytes m) ≡ get_or (chosen (code_of mode) m sel) p 0
  chosen_at b p hp e =
      let pos : 0 < col_bytes m = pos_right p (k (code_of mode)) (col_bytes m) hp in
      let column : p / col_bytes m < k (code_of mode) = (div-lt_iff_lt-mul pos).1 hp in
      let place : b < col_bytes m = rw (sym e) (mod-lt p pos) in
      sym
      (ap (λ (x : ℕ). get_or (chosen (code_of mode) m sel) x 0) (sym (div-add-mod' p (col_bytes m)) ∙ ap (λ (x : ℕ). p / col_bytes m * col_bytes m + x) e)
      ∙ chosen_places (p / col_bytes m) b column place)
