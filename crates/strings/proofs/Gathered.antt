-- Laws of gathering: the mask of equal bytes, a row's strings gone over under it, and a string that stands alone brought to the front. Assumes nothing.
use mathlib.Core.Path.{◌≡◌, refl, sym, ap, ap₂, subst, ◌∙◌}
use mathlib.Core.List.{List, ◌++◌}
use Prim.Native.Nat.{ℕ, ◌+◌, ◌-◌, ◌*◌, ◌/◌, ◌%◌, ◌^◌, ◌≤◌, ◌<◌}
use native.Mathlib.Nat.{zero-add, add-mul, mod-eq_of_lt, mul-le-mul_right}
use native.Mathlib.Decide.{ℕ_discrete, dec_lt}
use native.Mathlib.Omega.{arith}
use lib.Arith.{digits_lt, digits_div, digits_mod}
use lib.Bits.{bit_xor, bit_and, and_mask, and_zero_r, xor_zero_l, xor_zero_r, xor_self}
use lib.ListN.{length, get_or, take, drop, length-take, length-drop, get_or-append, get_or-eq_default}
use lib.Seq.{get_or-take, get_or-drop, get_or-append-add}
use borrow.Rule.Slice.PartMut.{put_mid}
use borrow.Author.Tests.{eq-eqb, ne_eqb}
use Rattle.basics.specs.Bytes.{build, Bytes, ◌⊕◌}
use Rattle.basics.proofs.Bytes.{length-build, get_or-build, length-xor, get_or-xor, xor_undo}
use Rattle.basics.proofs.Choice.{picked, unpicked}
use Rattle.basics.proofs.Fill.{Filled, filled_rest, put_inside, put_outside}
use Rattle.strings.specs.Gathered.{equal_mask, under, added, Alone, Folded}

-- ---- what a loop that fills from the front has not reached is what it was

pub filled_past : {f : ℕ → ℕ} {i : ℕ} {old now : List ℕ} → Filled f i old now → (p : ℕ) → i ≤ p → get_or now p 0 ≡ get_or old p 0
filled_past {f} {i} {old} {now} z p h =
    let split : i + (p - i) ≡ p = omega arith in
    ap (λ (x : ℕ). get_or now x 0) (sym split) ∙ filled_rest z (p - i) ∙ ap (λ (x : ℕ). get_or old x 0) split

-- ---- k strings of l bytes from string i on end within n strings

pub end_within : (l i k n : ℕ) → i + k ≤ n → i * l + k * l ≤ n * l
end_within l i k n h = omega (arith, add-mul i k l, mul-le-mul_right l h)

-- ---- the mask

-- bytes that are not equal carry into the ninth bit of 255 and their difference
pub equal_carry : (a b x : ℕ) → x ≡ bit_xor a b → x < 256 → (1 - (x + 255) / 2 ^ 8) * 255 ≡ equal_mask a b
equal_carry a b x hx few = side (ℕ_discrete a b) (dec_lt 0 x)
  where
    side : Dec (a ≡ b) → Dec (0 < x) → (1 - (x + 255) / 2 ^ 8) * 255 ≡ equal_mask a b
    side (yes e) d =
        let zero : x ≡ 0 = hx ∙ ap (bit_xor a) (sym e) ∙ xor_self a in
        let q : (1 - (x + 255) / 2 ^ 8) * 255 ≡ 255 = omega arith in q ∙ sym (picked _ _ (eq-eqb a b e))
    side (no n) (yes h) = let q : (1 - (x + 255) / 2 ^ 8) * 255 ≡ 0 = omega arith in q ∙ sym (unpicked _ _ (ne_eqb a b n))
    side (no n) (no h) =
        let zero : bit_xor a b ≡ 0 = sym hx ∙ omega arith in
        absurd (n (sym (xor_undo a b) ∙ ap (λ (y : ℕ). bit_xor y b) zero ∙ xor_zero_l b))

mask_on : (y a b : ℕ) → y < 256 → a ≡ b → bit_and y (equal_mask a b) ≡ y
mask_on y a b h e = ap (bit_and y) (picked _ _ (eq-eqb a b e)) ∙ and_mask y 8 ∙ mod-eq_of_lt h

mask_off : (y a b : ℕ) → (a ≡ b → ⊥) → bit_and y (equal_mask a b) ≡ 0
mask_off y a b n = ap (bit_and y) (unpicked _ _ (ne_eqb a b n)) ∙ and_zero_r y

-- ---- i strings of a row gone over: byte p of the workspace is w p

module _ (l h r : ℕ) (row : List ℕ) where
  pub record Over (i : ℕ) (w : ℕ → ℕ) : Type 0 where
    pub before : i ≤ r → (x t : ℕ) → x < h → t < l → w (x * l + t) ≡ 0
    pub after : r < i → Alone l h (λ t. get_or row (r * l + t) 0) w

  pub over_none : Over 0 (λ p. 0)
  over_none = record { before = λ e x t hx ht. refl; after = λ e. absurd (omega arith) }

  module _ (i c : ℕ) (w next : ℕ → ℕ) (bytes : Bytes row) (few : i + c ≤ 256) (small : r < 256)
      (new : (x t : ℕ) → x < c → t < l → next (x * l + t) ≡ bit_xor (w (x * l + t)) (bit_and (get_or row ((i + x) * l + t) 0) (equal_mask x ((256 + r - i) % 256))))
      (same : (x t : ℕ) → c ≤ x → x < h → t < l → next (x * l + t) ≡ w (x * l + t)) where
    -- where a string is not the selected one nothing is added
    kept : (x t : ℕ) → x < h → t < l → (x < c → i + x ≡ r → ⊥) → next (x * l + t) ≡ w (x * l + t)
    kept x t hx ht n = side (dec_lt x c)
      where
        side : Dec (x < c) → next (x * l + t) ≡ w (x * l + t)
        side (yes q) = new x t q ht ∙ ap (bit_xor (w (x * l + t))) (mask_off (get_or row ((i + x) * l + t) 0) x ((256 + r - i) % 256) (λ e. n q (omega arith))) ∙ xor_zero_r (w (x * l + t))
        side (no q) = same x t (omega arith) hx ht

    pub over_more : c ≤ h → Over i w → Over (i + c) next
    over_more hc z = side (dec_lt r i) (dec_lt r (i + c))
      where
        side : Dec (r < i) → Dec (r < i + c) → Over (i + c) next
        side (yes q) d =
            let a = z.after q in
            record {
              before = λ e. absurd (omega arith);
              after = λ e. record {
                slot = a.slot;
                within = a.within;
                here = λ t ht. kept a.slot t a.within ht (λ v u. omega arith) ∙ a.here t ht;
                none = λ x t hx n ht. kept x t hx ht (λ v u. omega arith) ∙ a.none x t hx n ht;
              };
            }
        side (no q) (yes d) =
            let start : i + (r - i) ≡ r = omega arith in
            let within : r - i < c = omega arith in
            record {
              before = λ e. absurd (omega arith);
              after = λ e. record {
                slot = r - i;
                within = omega arith;
                here = λ t ht.
                    new (r - i) t within ht
                    ∙ ap₂ bit_xor (z.before (omega arith) (r - i) t (omega arith) ht) (mask_on (get_or row ((i + (r - i)) * l + t) 0) (r - i) ((256 + r - i) % 256) (bytes _) (omega arith))
                    ∙ xor_zero_l _ ∙ ap (λ (y : ℕ). get_or row (y * l + t) 0) start;
                none = λ x t hx n ht. kept x t hx ht (λ v u. n (omega arith)) ∙ z.before (omega arith) x t hx ht;
              };
            }
        side (no q) (no d) = record {
          before = λ e x t hx ht. kept x t hx ht (λ v u. omega arith) ∙ z.before (omega arith) x t hx ht;
          after = λ e. absurd (omega arith);
        }

  -- all n strings gone over: the selected one stands alone, or zeros where the row has no such place
  pub over_end : (n : ℕ) {w : ℕ → ℕ} → length row ≡ n * l → 1 ≤ h → Over n w → Alone l h (λ t. get_or row (r * l + t) 0) w
  over_end n {w} long some z = side (dec_lt r n)
    where
      side : Dec (r < n) → Alone l h (λ t. get_or row (r * l + t) 0) w
      side (yes q) = z.after q
      side (no q) = record {
        slot = 0;
        within = omega arith;
        here = λ t ht.
            z.before (omega arith) 0 t (omega arith) ht
            ∙ sym (get_or-eq_default row 0 {n = r * l + t} (omega (arith, mul-le-mul_right l (let u : n ≤ r = omega arith in u))));
        none = λ x t hx e ht. z.before (omega arith) x t hx ht;
      }

-- ---- the loops that go over strings, h of them at a time

-- the place of byte t of string x
place_at : (l h x t : ℕ) (places : List ℕ) → places ≡ build (h * l) (λ p. p / l) → x < h → t < l → get_or places (x * l + t) 0 ≡ x
place_at l h x t places e hx ht = ap (λ (s : List ℕ). get_or s (x * l + t) 0) e ∙ get_or-build (h * l) (λ p. p / l) (x * l + t) (digits_lt hx ht) ∙ digits_div x ht

-- byte t of string x of those that were lent from string i on
lent_at : (l i c x t a b : ℕ) (row : List ℕ) → a ≡ i * l → b ≡ c * l → x < c → t < l → get_or (take b (drop a row)) (x * l + t) 0 ≡ get_or row ((i + x) * l + t) 0
lent_at l i c x t a b row ha hb hx ht =
    get_or-take b (drop a row) (x * l + t) 0 (omega (arith, digits_lt hx ht)) ∙ get_or-drop a row (x * l + t) 0
    ∙ ap (λ (p : ℕ). get_or row p 0) (let q : a + (x * l + t) ≡ (i + x) * l + t = omega (arith, add-mul i x l) in q)

-- byte p of what was added
abbrev pub added_at : ℕ → ℕ → List ℕ → List ℕ → List ℕ → List ℕ → ℕ → ℕ
added_at place other places src more work p = bit_xor (bit_xor (get_or work p 0) (under place places src p)) (under other places more p)

pub added_is : (place other : ℕ) (places src more work : List ℕ) → build (length work) (added_at place other places src more work) ≡ added place other places src more work
unfolding added
added_is place other places src more work = refl

module _ (l h r : ℕ) (places row : List ℕ) (are : places ≡ build (h * l) (λ p. p / l)) (bytes : Bytes row) (small : r < 256) where
  -- what c strings, lent from string i on and looked at for the place u, bring to the workspace
  abbrev brings : ℕ → ℕ → ℕ → ℕ → ℕ
  brings i u x t = bit_and (get_or row ((i + x) * l + t) 0) (equal_mask x u)

  -- the first h strings are held
  pub hold_over : (b : ℕ) (old : List ℕ) {now : List ℕ} → length old ≡ h * l → b ≡ h * l → h ≤ 256
      → now ≡ build (length old) (under r places (take b (drop 0 row))) → Over l h r row h (λ p. get_or now p 0)
  hold_over b old {now} long hb few e =
      subst (λ (n : ℕ). Over l h r row n (λ p. get_or now p 0)) (zero-add h)
      (over_more l h r row 0 h (λ p. 0) (λ p. get_or now p 0) bytes (omega arith) small
      (λ x t hx ht.
      ap (λ (s : List ℕ). get_or s (x * l + t) 0) e ∙ get_or-build (length old) _ (x * l + t) (omega (arith, digits_lt hx ht))
      ∙ ap₂ bit_and (lent_at l 0 h x t 0 b row (omega arith) hb hx ht)
      (ap₂ equal_mask (place_at l h x t places are hx ht) (let q : r ≡ (256 + r - 0) % 256 = omega arith in q))
      ∙ sym (xor_zero_l _))
      (λ x t hc hx ht. absurd (omega arith)) (omega arith) (over_none l h r row))

  -- c more from string i on, and c from string d on, are added to the front of the workspace
  module _ (i d c a b k a' b' u v : ℕ) (work ys : List ℕ) (long : length work ≡ h * l) (hc : c ≤ h) (ha : a ≡ i * l) (hb : b ≡ c * l) (hk : k ≡ c * l)
      (ha' : a' ≡ d * l) (hb' : b' ≡ c * l) (hu : u ≡ (256 + r - i) % 256)
      (e : ys ≡ added u v places (take b (drop a row)) (take b' (drop a' row)) (take k (drop 0 work))) where
    abbrev next : ℕ → ℕ
    next p = get_or (put_mid 0 k work ys) p 0

    fits : 0 + k ≤ length work
    fits = omega (arith, mul-le-mul_right l hc)

    part : length (take k (drop 0 work)) ≡ k
    part = simp (length-take, length-drop) (omega (arith, mul-le-mul_right l hc))

    ylen : length ys ≡ k
    unfolding added
    ylen = ap length e ∙ length-build (length (take k (drop 0 work))) _ ∙ part

    byte : (x t : ℕ) → x < c → t < l → next (x * l + t) ≡ bit_xor (bit_xor (get_or work (x * l + t) 0) (brings i u x t)) (brings d v x t)
    unfolding added
    byte x t hx ht =
        let p : ℕ = x * l + t in
        let q : x * l + t < k = omega (arith, digits_lt hx ht) in
        let at = place_at l h x t places are (omega arith) ht in
        ap (λ (y : ℕ). get_or (put_mid 0 k work ys) y 0) (sym (zero-add p)) ∙ put_inside 0 k work ys fits ylen p q
        ∙ ap (λ (s : List ℕ). get_or s p 0) e ∙ get_or-build (length (take k (drop 0 work))) _ p (omega (arith, part))
        ∙ ap₂ bit_xor (ap₂ bit_xor (get_or-take k (drop 0 work) p 0 q) (ap₂ bit_and (lent_at l i c x t a b row ha hb hx ht) (ap (λ (y : ℕ). equal_mask y u) at)))
        (ap₂ bit_and (lent_at l d c x t a' b' row ha' hb' hx ht) (ap (λ (y : ℕ). equal_mask y v) at))

    stays : (x t : ℕ) → c ≤ x → x < h → t < l → next (x * l + t) ≡ get_or work (x * l + t) 0
    stays x t hx hh ht = put_outside 0 k work ys fits ylen (x * l + t) (λ y hy f. omega (arith, mul-le-mul_right l hx))

    -- h strings twice
    pub pair_over : c ≡ h → d ≡ i + c → v ≡ (256 + r - d) % 256 → d + c ≤ 256 → Over l h r row i (λ p. get_or work p 0) → Over l h r row (d + c) next
    pair_over all hd hv few z =
        over_more l h r row d c mid next bytes few small
        (λ x t hx ht. byte x t hx ht ∙ ap₂ bit_xor (sym (between x t ht)) (ap (λ (y : ℕ). bit_and (get_or row ((d + x) * l + t) 0) (equal_mask x y)) hv))
        (λ x t hx hh ht. absurd (omega arith)) hc
        (subst (λ (n : ℕ). Over l h r row n mid) (sym hd)
        (over_more l h r row i c (λ p. get_or work p 0) mid bytes (omega arith) small
        (λ x t hx ht. between x t ht ∙ ap (λ (y : ℕ). bit_xor (get_or work (x * l + t) 0) (bit_and (get_or row ((i + x) * l + t) 0) (equal_mask x y))) hu)
        (λ x t hx hh ht. absurd (omega arith)) hc z))
      where
        -- after the first of the two
        mid : ℕ → ℕ
        mid p = bit_xor (get_or work p 0) (brings i u (p / l) (p % l))

        between : (x t : ℕ) → t < l → mid (x * l + t) ≡ bit_xor (get_or work (x * l + t) 0) (brings i u x t)
        between x t ht = ap₂ (λ (y s : ℕ). bit_xor (get_or work (x * l + t) 0) (brings i u y s)) (digits_div x ht) (digits_mod x ht)

    -- the last strings, with a place that is none for the others
    pub last_over : v ≡ 255 → h ≤ 255 → i + c ≤ 256 → Over l h r row i (λ p. get_or work p 0) → Over l h r row (i + c) next
    last_over hv less few z =
        over_more l h r row i c (λ p. get_or work p 0) next bytes few small
        (λ x t hx ht.
        byte x t hx ht ∙ ap (bit_xor (bit_xor (get_or work (x * l + t) 0) (brings i u x t))) (mask_off (get_or row ((d + x) * l + t) 0) x v (λ f. omega arith))
        ∙ xor_zero_r _ ∙ ap (λ (y : ℕ). bit_xor (get_or work (x * l + t) 0) (bit_and (get_or row ((i + x) * l + t) 0) (equal_mask x y))) hu)
        stays hc z

-- ---- the second half of k strings xored onto the first

-- the front f of old, and the rest b, of which the first len bytes are xored onto f
pub folded_split : (f b : List ℕ) (at len : ℕ) {old g : List ℕ} → old ≡ f ++ b → length f ≡ at → len ≤ at → g ≡ f ⊕ take len b → Folded at len old (g ++ b)
folded_split f b at len {old} {g} e long less hg = record { first = first; rest = λ p h. rest p h (dec_lt p (length f)) }
  where
    t : List ℕ
    t = take len b

    glen : length g ≡ length f
    glen = ap length hg ∙ length-xor f t

    byte : (p : ℕ) → p < length f → get_or (g ++ b) p 0 ≡ bit_xor (get_or f p 0) (get_or t p 0)
    byte p q = get_or-append g b 0 p (omega (arith, glen)) ∙ ap (λ (x : List ℕ). get_or x p 0) hg ∙ get_or-xor f t p q

    old_at : (p : ℕ) → p < length f → get_or old p 0 ≡ get_or f p 0
    old_at p q = ap (λ (x : List ℕ). get_or x p 0) e ∙ get_or-append f b 0 p q

    first : (p : ℕ) → p < len → get_or (g ++ b) p 0 ≡ bit_xor (get_or old p 0) (get_or old (at + p) 0)
    first p h =
        let q : p < length f = omega (arith, long) in
        byte p q
        ∙ ap₂ bit_xor (sym (old_at p q))
        (get_or-take len b p 0 h ∙ sym (ap₂ (λ (x : List ℕ) (a : ℕ). get_or x (a + p) 0) e (sym long) ∙ get_or-append-add f b p 0))

    rest : (p : ℕ) → len ≤ p → Dec (p < length f) → get_or (g ++ b) p 0 ≡ get_or old p 0
    rest p h (yes q) =
        byte p q ∙ ap (bit_xor (get_or f p 0)) (get_or-eq_default t 0 {n = p} (omega (arith, length-take len b))) ∙ xor_zero_r _ ∙ sym (old_at p q)
    rest p h (no q) =
        let split : length f + (p - length f) ≡ p = omega arith in
        let past : length g + (p - length f) ≡ p = omega (arith, glen) in
        ap (λ (x : ℕ). get_or (g ++ b) x 0) (sym past) ∙ get_or-append-add g b (p - length f) 0
        ∙ sym (get_or-append-add f b (p - length f) 0) ∙ ap₂ (λ (x : List ℕ) (a : ℕ). get_or x a 0) (sym e) split

pub alone_half : (l half rest : ℕ) (old now : List ℕ) → rest ≤ half → Folded (half * l) (rest * l) old now
    → (s : ℕ → ℕ) → Alone l (half + rest) s (λ p. get_or old p 0) → Alone l half s (λ p. get_or now p 0)
alone_half l half rest old now hr e s z = side (dec_lt z.slot half)
  where
    f : ℕ → ℕ
    f p = get_or old p 0

    g : ℕ → ℕ
    g p = get_or now p 0

    upper : (x t : ℕ) → half * l + (x * l + t) ≡ (half + x) * l + t
    upper x t = omega (arith, add-mul half x l)

    folded : (x t : ℕ) → x < rest → t < l → g (x * l + t) ≡ bit_xor (f (x * l + t)) (f ((half + x) * l + t))
    folded x t hx ht = e.first (x * l + t) (digits_lt hx ht) ∙ ap (λ (p : ℕ). bit_xor (f (x * l + t)) (f p)) (upper x t)

    stays : (x t : ℕ) → rest ≤ x → g (x * l + t) ≡ f (x * l + t)
    stays x t hx = e.rest (x * l + t) (omega (arith, mul-le-mul_right l hx))

    -- a string of the first half, where the one that comes onto it is zeros
    lower : (x t : ℕ) → x < half → t < l → (half + x ≡ z.slot → ⊥) → g (x * l + t) ≡ f (x * l + t)
    lower x t hx ht n = at (dec_lt x rest)
      where
        at : Dec (x < rest) → g (x * l + t) ≡ f (x * l + t)
        at (yes q) = folded x t q ht ∙ ap (bit_xor (f (x * l + t))) (z.none (half + x) t (omega arith) n ht) ∙ xor_zero_r _
        at (no q) = stays x t (omega arith)

    side : Dec (z.slot < half) → Alone l half s g
    side (yes q) = record {
      slot = z.slot;
      within = q;
      here = λ t ht. lower z.slot t q ht (λ e. omega arith) ∙ z.here t ht;
      none = λ x t hx n ht. lower x t hx ht (λ e. omega arith) ∙ z.none x t (omega arith) n ht;
    }
    side (no q) =
        let start : half + (z.slot - half) ≡ z.slot = omega arith in
        let less : z.slot - half < rest = omega (arith, z.within) in
        record {
          slot = z.slot - half;
          within = omega arith;
          here = λ t ht.
              folded (z.slot - half) t less ht
              ∙ ap₂ bit_xor (z.none (z.slot - half) t (omega arith) (λ e. omega arith) ht) (ap (λ (x : ℕ). f (x * l + t)) start ∙ z.here t ht)
              ∙ xor_zero_l (s t);
          none = λ x t hx n ht. lower x t hx ht (λ e. n (omega arith)) ∙ z.none x t (omega arith) (λ e. omega arith) ht;
        }

-- one string alone stands at the front
pub alone_one : (l : ℕ) (s w : ℕ → ℕ) → Alone l 1 s w → (t : ℕ) → t < l → w t ≡ s t
alone_one l s w z t ht =
    let first : z.slot ≡ 0 = omega (arith, z.within) in
    let front : t ≡ z.slot * l + t = omega (arith, ap (λ (x : ℕ). x * l) first) in
    ap w front ∙ z.here t ht
