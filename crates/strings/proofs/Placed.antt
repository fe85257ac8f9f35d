-- Laws of the table of places: the zeros it begins with, the first string's places, and those of as many strings more. Assumes nothing.
use mathlib.Core.Path.{◌≡◌, sym, ap, ◌∙◌}
use mathlib.Core.List.{List}
use Prim.Native.Nat.{ℕ, ◌+◌, ◌-◌, ◌*◌, ◌/◌, ◌%◌, ◌≤◌, ◌<◌}
use native.Mathlib.Nat.{add-mul, div-add-mod', mod-lt}
use native.Mathlib.Decide.{dec_lt}
use native.Mathlib.Omega.{arith}
use lib.Arith.{digits_div}
use lib.ListN.{get_or, take, drop, replicate, length-take, length-replicate, get_or-replicate, get_or-eq_default}
use lib.Seq.{get_or-take}
use Rattle.basics.proofs.Bytes.{pos_right}

-- the front of n zeros, 0 past its end too
pub zeros : (n k p : ℕ) → get_or (take k (drop 0 (replicate {A = ℕ} n 0))) p 0 ≡ 0
zeros n k p = side (dec_lt p k) (dec_lt p n)
  where
    side : Dec (p < k) → Dec (p < n) → get_or (take k (drop 0 (replicate {A = ℕ} n 0))) p 0 ≡ 0
    side (yes a) (yes b) = get_or-take k (replicate {A = ℕ} n 0) p 0 a ∙ get_or-replicate n p 0 0 b
    side (yes a) (no b) = get_or-take k (replicate {A = ℕ} n 0) p 0 a ∙ get_or-eq_default (replicate {A = ℕ} n 0) 0 {n = p} (omega (arith, length-replicate {A = ℕ} n 0))
    side (no a) d = get_or-eq_default (take k (replicate {A = ℕ} n 0)) 0 {n = p} (omega (arith, length-take k (replicate {A = ℕ} n 0)))

-- byte p from string k on belongs to the string p div l after it
place_on : (l k p : ℕ) → 0 < l → p / l + k ≡ (k * l + p) / l
place_on l k p h =
    let split : k * l + p ≡ (k + p / l) * l + p % l = omega (arith, add-mul k (p / l) l, div-add-mod' p l) in
    sym (ap (λ (x : ℕ). x / l) split ∙ digits_div (k + p / l) (mod-lt p h) ∙ omega arith)

pub places_first : (l : ℕ) (places : List ℕ) → ((p : ℕ) → get_or places p 0 ≡ 0) → (p : ℕ) → p < 1 * l → get_or places p 0 ≡ p / l
places_first l places zeros p h =
    zeros p ∙ sym (ap (λ (x : ℕ). x / l) (let q : p ≡ 0 * l + p = omega arith in q) ∙ digits_div 0 (let q : p < l = omega arith in q))

pub places_more : (l k more : ℕ) (places next : List ℕ) → more * l ≤ k * l → ((p : ℕ) → p < k * l → get_or places p 0 ≡ p / l)
    → ((p : ℕ) → p < more * l → get_or next (k * l + p) 0 ≡ get_or places p 0 + k) → ((p : ℕ) → p < k * l → get_or next p 0 ≡ get_or places p 0)
    → (p : ℕ) → p < (k + more) * l → get_or next p 0 ≡ p / l
places_more l k more places next less are new same p h = side (dec_lt p (k * l))
  where
    side : Dec (p < k * l) → get_or next p 0 ≡ p / l
    side (yes q) = same p q ∙ are p q
    side (no q) =
        let split : k * l + (p - k * l) ≡ p = omega arith in
        let inner : p - k * l < more * l = omega (arith, add-mul k more l) in
        ap (λ (x : ℕ). get_or next x 0) (sym split) ∙ new (p - k * l) inner ∙ ap (λ (x : ℕ). x + k) (are (p - k * l) (omega arith))
        ∙ place_on l k (p - k * l) (pos_right p (k + more) l h) ∙ ap (λ (x : ℕ). x / l) split
