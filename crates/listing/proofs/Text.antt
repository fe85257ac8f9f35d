-- Laws of text: a listing that grows by one byte, and by more. Assumes nothing.
use mathlib.Core.Path.{◌≡◌, refl, sym, ap, ap₂, ◌∙◌}
use mathlib.Core.Bool.{Bool, true, false}
use mathlib.Core.List.{List, [], ◌∷◌, ◌++◌, append_assoc, append-nil}
use Prim.Native.Nat.{ℕ, zero, suc, ◌+◌, ◌-◌, ◌/◌, ◌%◌, ◌<◌, ◌≤◌, min}
use native.Mathlib.Numerals.{add-one}
use native.Mathlib.Omega.{arith}
use lib.ListN.{length, get_or, take, set, replicate, length-append, length-take, length-replicate}
use lib.Seq.{length-take-le, take_all, take-append-le, take-suc, set_at}
use lib.Dec.{leb, ltb}
use borrow.Author.Tests.{ltb-true, ltb-false}
use Rattle.basics.specs.Choice.{pick}
use Rattle.listing.specs.declared.Listing.{Listing}
use Rattle.listing.specs.Text.{lead, decimal, hex_digit, hexed, listed, pushed, grown, Holds}

-- ---- listed

abbrev made : List ℕ → ℕ → Listing
made text len = record { text = text; len = len }

pub listed_len : {l : Listing} (s : List ℕ) → l ≡ listed s → l.len ≡ min (length s) 128
unfolding listed
listed_len s e = ap (λ (x : Listing). x.len) e

-- a byte behind a text that has room for it
pub listed_push : {l : Listing} (s : List ℕ) (b : ℕ) → l ≡ listed s → l.len < 128 → made (set l.text l.len b) (l.len + 1) ≡ listed (s ++ (b ∷ []))
unfolding listed
listed_push {l} s b e h =
    let n = listed_len s e in
    let at : l.len ≡ length s = omega arith in
    let room : length s < 128 = omega arith in
    let more : length (s ++ (b ∷ [])) ≡ length s + 1 = length-append s (b ∷ []) in
    let left : 128 - length s ≡ suc (128 - (length s + 1)) = omega arith in
    let text : l.text ≡ s ++ (0 ∷ replicate (128 - (length s + 1)) 0)
    = ap (λ (x : Listing). x.text) e ∙ ap₂ (λ (x : List ℕ) (k : ℕ). x ++ replicate k 0) (take_all 128 s (omega arith)) left in
    ap₂ made
    (ap₂ (λ (x : List ℕ) (k : ℕ). set x k b) text at ∙ set_at s 0 (replicate (128 - (length s + 1)) 0) b (length s) refl
    ∙ sym (append_assoc s (b ∷ []) (replicate (128 - (length s + 1)) 0))
    ∙ ap₂ (λ (x : List ℕ) (k : ℕ). x ++ replicate (128 - k) 0) (sym (take_all 128 (s ++ (b ∷ [])) (omega arith))) (sym more))
    (omega arith)

-- and behind one that has none
pub listed_full : {l : Listing} (s : List ℕ) (b : ℕ) → l ≡ listed s → 128 ≤ l.len → l ≡ listed (s ++ (b ∷ []))
unfolding listed
listed_full {l} s b e h =
    let n = listed_len s e in
    let more : length (s ++ (b ∷ [])) ≡ length s + 1 = length-append s (b ∷ []) in
    let full : 128 ≤ length s = omega arith in
    e ∙ ap₂ made
    (ap₂ (λ (x : List ℕ) (k : ℕ). x ++ replicate k 0) (sym (take-append-le 128 s (b ∷ []) full)) (let q : 128 - length s ≡ 128 - length (s ++ (b ∷ [])) = omega arith in q))
    (let q : min (length s) 128 ≡ min (length (s ++ (b ∷ []))) 128 = omega arith in q)

pub holds : {l : Listing} (s : List ℕ) → l ≡ listed s → Holds s l
unfolding listed
holds {l} s e =
    let n = listed_len s e in
    let room : length l.text ≡ 128
    = ap (λ (x : Listing). length x.text) e ∙ length-append (take 128 s) (replicate (128 - length s) 0)
    ∙ simp (length-take, length-replicate) (omega arith) in
    record {
      is = e;
      within = omega arith;
      counts = sym (length-take-le l.len l.text (omega arith));
    }

-- ---- grown

pub pushed_listed : (s : List ℕ) (b : ℕ) → pushed (listed s) b ≡ listed (s ++ (b ∷ []))
unfolding pushed
pushed_listed s b = cases (ltb (listed s).len 128) refl
  where
    cases : (t : Bool) → ltb (listed s).len 128 ≡ t → pick t (made (set (listed s).text (listed s).len b) ((listed s).len + 1)) (listed s) ≡ listed (s ++ (b ∷ []))
    cases true e = listed_push s b refl (ltb-true _ _ e)
    cases false e = listed_full s b refl (ltb-false _ _ e)

pub grown_more : (l : Listing) (a b : List ℕ) → grown l (a ++ b) ≡ grown (grown l a) b
unfolding grown
grown_more l [] b = refl
grown_more l (x ∷ a) b = grown_more (pushed l x) a b

pub grown_one : (l : Listing) (b : ℕ) → grown l (b ∷ []) ≡ pushed l b
unfolding grown
grown_one l b = refl

-- a word's next byte
pub grown_next : (l : Listing) (w : List ℕ) (i : ℕ) → i < length w → grown l (take (i + 1) w) ≡ pushed (grown l (take i w)) (get_or w i 0)
grown_next l w i h =
    ap (grown l) (ap (λ (k : ℕ). take k w) (add-one i) ∙ take-suc w i 0 h)
    ∙ grown_more l (take i w) (get_or w i 0 ∷ []) ∙ grown_one (grown l (take i w)) (get_or w i 0)

pub grown_listed : (s w : List ℕ) → grown (listed s) w ≡ listed (s ++ w)
unfolding grown
grown_listed s [] = ap listed (sym (append-nil s))
grown_listed s (b ∷ w) = ap (λ (l : Listing). grown l w) (pushed_listed s b) ∙ grown_listed (s ++ (b ∷ [])) w ∙ ap listed (append_assoc s (b ∷ []) w)

-- ---- lead and hexed

-- the digits of n at each unit in turn
abbrev pub leads : List ℕ → ℕ → List ℕ
leads [] n = []
leads (unit ∷ units) n = lead unit n ++ leads units n

pub leads_append : (a b : List ℕ) (n : ℕ) → leads (a ++ b) n ≡ leads a n ++ leads b n
leads_append [] b n = refl
leads_append (u ∷ a) b n = ap (λ (x : List ℕ). lead u n ++ x) (leads_append a b n) ∙ sym (append_assoc (lead u n) (leads a n) (leads b n))

pub leads_next : (units : List ℕ) (n i : ℕ) → i < length units → leads (take (i + 1) units) n ≡ leads (take i units) n ++ lead (get_or units i 0) n
leads_next units n i h =
    ap (λ (x : List ℕ). leads x n) (ap (λ (k : ℕ). take k units) (add-one i) ∙ take-suc units i 0 h)
    ∙ leads_append (take i units) (get_or units i 0 ∷ []) n ∙ ap (λ (x : List ℕ). leads (take i units) n ++ x) (append-nil (lead (get_or units i 0) n))

pub decimal_leads : (n : ℕ) → decimal n ≡ leads (10000 ∷ 1000 ∷ 100 ∷ 10 ∷ []) n ++ ((48 + n % 10) ∷ [])
unfolding decimal
decimal_leads n = simp (append-nil, append_assoc)

pub hexed_none : (f : ℕ → ℕ) → hexed 0 f ≡ []
unfolding hexed
hexed_none f = refl

pub hexed_next : (f : ℕ → ℕ) (i : ℕ) → hexed (i + 1) f ≡ hexed i f ++ (hex_digit (f i / 16) ∷ hex_digit (f i % 16) ∷ [])
unfolding hexed
hexed_next f i = ap (λ (k : ℕ). hexed k f) (add-one i)

-- the laws by which a text that grows step by step is one text
pub ruleset growing = (grown_more, grown_next, leads_next, decimal_leads, hexed_none, hexed_next)

-- ---- lengths

pub lead_short : (unit n : ℕ) → length (lead unit n) ≤ 1
unfolding lead
lead_short unit n = cases (leb unit n)
  where
    cases : (b : Bool) → length (pick b ((48 + n / unit % 10) ∷ []) []) ≤ 1
    cases true = omega arith
    cases false = omega arith

pub decimal_short : (n : ℕ) → length (decimal n) ≤ 5
unfolding decimal
decimal_short n =
    let a = lead_short 10000 n in
    let b = lead_short 1000 n in
    let c = lead_short 100 n in
    let d = lead_short 10 n in
    simp length-append (omega arith)

pub length-hexed : (n : ℕ) (f : ℕ → ℕ) → length (hexed n f) ≡ n + n
unfolding hexed
length-hexed zero f = refl
length-hexed (suc n) f = length-append (hexed n f) _ ∙ ap (λ (x : ℕ). x + 2) (length-hexed n f) ∙ omega arith
