-- Chains of checks against lists of lines: one law for each way in which a verdict goes on (`unless`, `or_else`, `at_first`, lent lengths). Assumes nothing.
use mathlib.Core.Path.{◌≡◌, refl, sym, ap, ap₂, ◌∙◌, subst}
use mathlib.Core.Bool.{Bool, true, false, true≢false}
use mathlib.Core.List.{List, [], ◌∷◌, ◌++◌}
use mathlib.Core.Logic.{◌⊎◌, inl, inr, ⊎_elim, ◌↔◌}
use Prim.Native.Nat.{ℕ, zero, suc, ◌+◌, ◌<◌, ◌≤◌}
use native.Mathlib.Decide.{dec_lt}
use native.Mathlib.Omega.{arith}
use lib.Dec.{eqb}
use borrow.Author.Tests.{eqb-true, eqb-false, eq-eqb, ne_eqb}
use Rattle.basics.specs.declared.Verdict.{Verdict}
use Rattle.basics.specs.Choice.{pick}
use Rattle.basics.specs.First.{first_at}
use Rattle.basics.specs.Verdicts.{at, pass, unless, or_else, at_first}
use Rattle.basics.proofs.First.{first_at_le, first_at_below, first_at_here}
use Rattle.transfer.specs.Rules.{Rule, rule, There, Smallest, Tried, None, Decided, when, Wrong}

-- ---- lists of lines

tried_append : (rs ss : List Rule) (n p : ℕ) → Tried rs n p → Tried (rs ++ ss) n p
tried_append [] ss n p t = absurd t
tried_append (r ∷ rs) ss n p t = ⊎_elim (λ h. inl h) (λ h. inr (h.0, tried_append rs ss n p h.1)) t

-- where the front calls for some refusal, whatever the whole list calls for is the front's
tried_front : (rs ss : List Rule) (n p n' p' : ℕ) → Tried rs n p → Tried (rs ++ ss) n' p' → Tried rs n' p'
tried_front [] ss n p n' p' t u = absurd t
tried_front (r ∷ rs) ss n p n' p' t u =
    ⊎_elim (λ h. inl h)
    (λ h. inr (h.0, ⊎_elim (λ g. absurd (h.0 p g.1)) (λ g. tried_front rs ss n p n' p' g.1 h.1) t)) u

none_front : (rs ss : List Rule) → None (rs ++ ss) → None rs
none_front [] ss z = tt
none_front (r ∷ rs) ss z = (z.0, none_front rs ss z.1)

-- ---- one line

code_of_lem : {v : Verdict} {n p : ℕ} → v ≡ at n p → v.code ≡ n
code_of_lem e = ap (λ (x : Verdict). x.code) e

pub decided_none : Decided [] pass
decided_none = record {
  either = inl refl;
  refused = λ n p pos. (λ e. let z : 0 ≡ n = code_of_lem e in omega arith, λ t. absurd t);
  passed = (λ e. tt, λ z. refl);
}

-- it holds at one place, and the verdict says so
pub decided_here : (r : Rule) (rs : List Rule) {v : Verdict} (p : ℕ) → r.given p → ((q : ℕ) → r.given q → q ≡ p) → 0 < r.number → v ≡ at r.number p
    → Decided (r ∷ rs) v
decided_here r rs {v} p here only pos e =
    let code : v.code ≡ r.number = code_of_lem e in
    record {
      either = inr (let h : 0 < v.code = omega arith in h);
      refused = λ n q h. (
        λ f. inl (sym code ∙ code_of_lem f, subst r.given (sym (ap (λ (x : Verdict). x.place) e) ∙ ap (λ (x : Verdict). x.place) f) here),
        ⊎_elim (λ g. e ∙ ap₂ at g.0 (sym (only q g.1))) (λ g. absurd (g.0 p here)),
      );
      passed = (λ f. absurd (let z : v.code ≡ 0 = code_of_lem f in omega arith), λ z. absurd (z.0 p here));
    }

-- it holds nowhere
pub decided_past : (r : Rule) (rs : List Rule) {v : Verdict} → ((q : ℕ) → r.given q → ⊥) → Decided rs v → Decided (r ∷ rs) v
decided_past r rs {v} never d = record {
  either = d.either;
  refused = λ n q h.
      (λ f. inr (never, (d.refused n q h).0 f), ⊎_elim (λ g. absurd (never q g.1)) (λ g. (d.refused n q h).1 g.1));
  passed = (λ f. (never, d.passed.0 f), λ z. d.passed.1 z.1);
}

-- two wordings of one line
pub decided_ext : (r s : Rule) (rs : List Rule) {v : Verdict} → r.number ≡ s.number → ((q : ℕ) → r.given q ↔ s.given q) → Decided (r ∷ rs) v → Decided (s ∷ rs) v
decided_ext r s rs {v} e f d = record {
  either = d.either;
  refused = λ n q h. (
    λ g. ⊎_elim (λ x. inl (sym e ∙ x.0, (f q).0 x.1)) (λ x. inr (λ p y. x.0 p ((f p).1 y), x.1)) ((d.refused n q h).0 g),
    λ g. (d.refused n q h).1 (⊎_elim (λ x. inl (e ∙ x.0, (f q).1 x.1)) (λ x. inr (λ p y. x.0 p ((f p).0 y), x.1)) g),
  );
  passed = (λ g. let z = d.passed.0 g in (λ p y. z.0 p ((f p).1 y), z.1), λ z. d.passed.1 (λ p y. z.0 p ((f p).0 y), z.1));
}

-- a verdict of code 0 is success
pub decided_zero : {rules : List Rule} {v : Verdict} → Decided rules v → v.code ≡ 0 → v ≡ pass
decided_zero d z = ⊎_elim (λ e. e) (λ pos. absurd (omega arith)) d.either

-- ---- unless

-- the line holds at its one place exactly if the test fails; what follows may use that the test held
pub decided_unless : (t : Bool) (code place : ℕ) (A : Type 0) (rs : List Rule) {next : Verdict} → 0 < code → (t ≡ false → A) → (t ≡ true → A → ⊥)
    → (t ≡ true → Decided rs next) → Decided (rule code (There place A) ∷ rs) (unless t code place next)
unfolding unless
decided_unless true code place A rs pos fails holds d = decided_past _ rs (λ q h. holds refl h.1) (d refl)
decided_unless false code place A rs pos fails holds d = decided_here _ rs place (refl, fails refl) (λ q h. h.0) pos refl

-- ---- or_else

decided_on : (rs ss : List Rule) {v : Verdict} → None rs → Decided ss v → Decided (rs ++ ss) v
decided_on [] ss z d = d
decided_on (r ∷ rs) ss z d = decided_past r (rs ++ ss) z.0 (decided_on rs ss z.1 d)

-- the first list decides, or passes on to the second
pub decided_or_else : (rs ss : List Rule) {a b : Verdict} → Decided rs a → Decided ss b → Decided (rs ++ ss) (or_else a b)
unfolding or_else
decided_or_else rs ss {a} {b} d e =
    ⊎_elim
    (λ p. subst (Decided (rs ++ ss)) (sym (ap (λ (t : Bool). pick t b a) (eq-eqb a.code 0 (code_of_lem p)))) (decided_on rs ss (d.passed.0 p) e))
    (λ pos. subst (Decided (rs ++ ss)) (sym (ap (λ (t : Bool). pick t b a) (ne_eqb a.code 0 (λ z. let h : 0 < a.code = pos in omega arith)))) (front pos))
    d.either
  where
    front : 0 < a.code → Decided (rs ++ ss) a
    front pos =
        let t : Tried rs a.code a.place = (d.refused a.code a.place pos).0 refl in
        record {
          either = inr pos;
          refused = λ n q h. (λ f. tried_append rs ss n q ((d.refused n q h).0 f), λ f. (d.refused n q h).1 (tried_front rs ss a.code a.place n q t f));
          passed = (
            λ f. absurd (let z : a.code ≡ 0 = code_of_lem f in omega arith),
            λ z. d.passed.1 (none_front rs ss z),
          );
        }

pub decided_then : (r : Rule) (ss : List Rule) {a b : Verdict} → Decided (r ∷ []) a → Decided ss b → Decided (r ∷ ss) (or_else a b)
decided_then r ss d e = decided_or_else (r ∷ []) ss d e

-- lines that apply where a test holds, and a check that is made there
pub decided_when : (t : Bool) (rs : List Rule) {v : Verdict} → Decided rs v → Decided (when t rs) (pick t v pass)
decided_when true rs d = d
decided_when false rs d = decided_none

-- ---- the smallest place

pub smallest_unique : {P : ℕ → Type 0} {a b : ℕ} → Smallest P a → Smallest P b → a ≡ b
smallest_unique {P} {a} {b} x y = side (dec_lt a b) (dec_lt b a)
  where
    side : Dec (a < b) → Dec (b < a) → a ≡ b
    side (yes l) _ = absurd (y.1 a l x.0)
    side (no l) (yes g) = absurd (x.1 b g y.0)
    side (no l) (no g) = omega arith

-- where there is no smallest place there is none
pub smallest_none : {P : ℕ → Type 0} → ((q : ℕ) → Smallest P q → ⊥) → (q : ℕ) → P q → ⊥
smallest_none {P} never q = up_to (suc q) q (omega arith)
  where
    up_to : (n : ℕ) (p : ℕ) → p < n → P p → ⊥
    up_to zero p h x = absurd (omega arith)
    up_to (suc n) p h x = never p (x, λ s l y. up_to n s (omega arith) y)

-- ---- at_first

-- the line names the places base + i where i, below n, has p
pub decided_first : (n : ℕ) (p : ℕ → Bool) (code base : ℕ) (P : ℕ → Type 0) → 0 < code → ((i : ℕ) → i < n → p i ≡ true → P (base + i))
    → ((q : ℕ) → P q → (i : ℕ) × (i < n) × (q ≡ base + i) × (p i ≡ true)) → Decided (rule code (Smallest P) ∷ []) (at_first n p code base)
unfolding at_first unless
decided_first n p code base P pos to of = side (eqb (first_at n p) n) refl
  where
    below : (q : ℕ) → q < base + first_at n p → P q → ⊥
    below q l x =
        let (i, h, e, t) = of q x in
        true≢false (sym t ∙ first_at_below n p i (omega arith))

    side : (t : Bool) → eqb (first_at n p) n ≡ t → Decided (rule code (Smallest P) ∷ []) (pick t pass (at code (base + first_at n p)))
    side true e =
        let all : first_at n p ≡ n = eqb-true _ _ e in
        decided_past _ [] (λ q x. let (i, h, f, t) = of q x.0 in below q (omega arith) x.0) decided_none
    side false e =
        let bound : first_at n p ≤ n = first_at_le n p in
        let differ : first_at n p ≡ n → ⊥ = eqb-false _ _ e in
        let less : first_at n p < n = omega arith in
        let least : Smallest P (base + first_at n p) = (to (first_at n p) less (first_at_here n p less), below) in
        decided_here _ [] (base + first_at n p) least (λ q x. smallest_unique {P = P} x least) pos refl

-- two searches in turn, the places of the first before those of the second, are one line
pub decided_either : (code : ℕ) (P Q R : ℕ → Type 0) {a b : Verdict} → ((p q : ℕ) → P p → Q q → p < q) → ((p : ℕ) → R p ↔ (P p ⊎ Q p))
    → Decided (rule code (Smallest P) ∷ []) a → Decided (rule code (Smallest Q) ∷ []) b → Decided (rule code (Smallest R) ∷ []) (or_else a b)
decided_either code P Q R {a} {b} order same d e = record {
  either = both.either;
  refused = λ n q h. (λ f. to n q ((both.refused n q h).0 f), λ f. (both.refused n q h).1 (of n q f));
  passed = (
    λ f. (λ q x. none (both.passed.0 f) q x.0, tt),
    λ z. both.passed.1
        (let never = smallest_none {P = R} z.0 in (λ q x. never q ((same q).1 (inl x.0)), (λ q x. never q ((same q).1 (inr x.0)), tt))),
  );
}
  where
    both : Decided (rule code (Smallest P) ∷ rule code (Smallest Q) ∷ []) (or_else a b)
    both = decided_then _ _ d e

    none : None (rule code (Smallest P) ∷ rule code (Smallest Q) ∷ []) → (q : ℕ) → R q → ⊥
    none z q x = ⊎_elim (smallest_none {P = P} z.0 q) (smallest_none {P = Q} z.1.0 q) ((same q).0 x)

    to : (n q : ℕ) → Tried (rule code (Smallest P) ∷ rule code (Smallest Q) ∷ []) n q → Tried (rule code (Smallest R) ∷ []) n q
    to n q (inl x) =
        inl (
          x.0,
          (
            (same q).1 (inl x.1.0),
            λ s l y. ⊎_elim (λ g. x.1.1 s l g) (λ g. let h : q < s = order q s x.1.0 g in omega arith) ((same s).0 y),
          ),
        )
    to n q (inr x) =
        ⊎_elim
        (λ y. inl (
          y.0,
          (
            (same q).1 (inr y.1.0),
            λ s l g. ⊎_elim (smallest_none {P = P} x.0 s) (λ w. y.1.1 s l w) ((same s).0 g),
          ),
        ))
        (λ y. absurd y.1) x.1

    of : (n q : ℕ) → Tried (rule code (Smallest R) ∷ []) n q → Tried (rule code (Smallest P) ∷ rule code (Smallest Q) ∷ []) n q
    of n q (inr x) = absurd x.1
    of n q (inl x) =
        ⊎_elim
        (λ g. inl (x.0, (g, λ s l y. x.1.1 s l ((same s).1 (inl y)))))
        (λ g. inr (
          λ p y. x.1.1 p (order p q y.0 g) ((same p).1 (inl y.0)),
          inl (x.0, (g, λ s l y. x.1.1 s l ((same s).1 (inr y)))),
        ))
        ((same q).0 x.1.0)

-- ---- lent lengths

-- the checks of buffers numbered from `first` on
abbrev pub lengths_from : ℕ → ℕ → List (ℕ × ℕ) → Verdict → Verdict
lengths_from code first [] next = next
lengths_from code first (b ∷ bs) next = unless (eqb b.0 b.1) code first (lengths_from code (suc first) bs next)

wrong_after : (first : ℕ) (bs : List (ℕ × ℕ)) (q : ℕ) → Wrong first bs q → first ≤ q
wrong_after first [] q w = absurd w
wrong_after first (b ∷ bs) q w =
    ⊎_elim (λ h. let e : q ≡ first = h.0 in let g : first ≤ q = omega arith in g)
    (λ h. let g = wrong_after (suc first) bs q h in let l : first ≤ q = omega arith in l) w

pub decided_lengths : (code first : ℕ) (bs : List (ℕ × ℕ)) (rs : List Rule) {next : Verdict} → 0 < code → Decided rs next
    → Decided (rule code (Smallest (Wrong first bs)) ∷ rs) (lengths_from code first bs next)
unfolding unless
decided_lengths code first [] rs pos d = decided_past _ rs (λ q x. x.0) d
decided_lengths code first (b ∷ bs) rs {next} pos d = side (eqb b.0 b.1) refl (decided_lengths code (suc first) bs rs pos d)
  where
    side : (t : Bool) → eqb b.0 b.1 ≡ t → Decided (rule code (Smallest (Wrong (suc first) bs)) ∷ rs) (lengths_from code (suc first) bs next)
        → Decided (rule code (Smallest (Wrong first (b ∷ bs))) ∷ rs) (pick t (lengths_from code (suc first) bs next) (at code first))
    side true e later =
        let fits : b.0 ≡ b.1 = eqb-true _ _ e in
        let on : (q : ℕ) → Wrong first (b ∷ bs) q → Wrong (suc first) bs q = λ q w. ⊎_elim (λ h. absurd (h.1 fits)) (λ h. h) w in
        decided_ext _ _ rs refl
        (λ q. (λ x. (inr x.0, λ s l y. x.1 s l (on s y)), λ x. (on q x.0, λ s l y. x.1 s l (inr y)))) later
    side false e later =
        let least : Smallest (Wrong first (b ∷ bs)) first
        = (inl (refl, eqb-false _ _ e), λ s l y. let g = wrong_after first (b ∷ bs) s y in omega arith) in
        decided_here _ rs first least (λ q x. smallest_unique {P = Wrong first (b ∷ bs)} x least) pos refl
