-- Each call's verdict is the one that its lines call for: chains of checks put together by the laws of `Decided`. Assumes nothing.
use mathlib.Core.Path.{◌≡◌, refl, sym, ap, ◌∙◌, subst}
use mathlib.Core.Bool.{Bool, true, false, not, ◌&&◌, ◌||◌, true≢false}
use mathlib.Core.List.{List, [], ◌∷◌}
use mathlib.Core.Logic.{◌⊎◌, inl, inr, ⊎_elim}
use Prim.Native.Nat.{ℕ, zero, suc, ◌+◌, ◌-◌, ◌*◌, ◌<◌, ◌≤◌}
use native.Mathlib.Decide.{ℕ_discrete}
use native.Mathlib.Nat.{zero-add}
use native.Mathlib.Omega.{arith}
use lib.Dec.{eqb, leb}
use lib.ListN.{length, get_or, drop}
use borrow.Author.Tests.{leb-true, leb-false, eqb-true, eqb-false, ne_eqb, le-leb, not-true}
use Rattle.basics.specs.declared.Verdict.{Verdict}
use Rattle.basics.specs.Choice.{pick}
use Rattle.basics.specs.Bytes.{bit_in, be16_at}
use Rattle.basics.specs.First.{some}
use Rattle.basics.specs.Padding.{col_bytes, padded}
use Rattle.basics.specs.Verdicts.{pass, unless, or_else, at_first}
use Rattle.basics.proofs.Choice.{both}
use Rattle.basics.proofs.First.{some_none}
use Rattle.symmetric.specs.Calls.{most_input, hash_verdict, block_verdict}
use Rattle.wire.specs.declared.Shape.{Shape}
use Rattle.wire.specs.Shapes.{k_of, most_places, within, most_rows, most_bytes, most_volume, shape_verdict, verdict_of, block_length, length_of}
use Rattle.wire.specs.Message.{session_at, block_header_at, block_at, shape_bytes, header_ok}
use Rattle.wire.specs.Received.{differs, padding_verdict, received_verdict, received}
use Rattle.wire.specs.Received as wired
use Rattle.wire.proofs.Shapes.{within_true}
use Rattle.reading.specs.declared.Cursor.{Cursor}
use Rattle.reading.specs.Reading.{cursor, shape_in, tag_in, length_in, block_ok, step_verdict, steps_verdict}
use Rattle.listing.specs.Lines.{list_verdict}
use Rattle.buyer.specs.Selections.{too_large, selections_verdict}
use Rattle.buyer.specs.Prepare.{prepare_lengths, sets_padding, prepare_verdict}
use Rattle.buyer.specs.Open.{open_lengths, open_verdict}
use Rattle.supplier.specs.Answer.{answer_lengths, taken_padding, answer_verdict}
use Rattle.transfer.specs.Rules.{Rule, rule, Smallest, Decided, when, choose, Allowed, shape_rules, length_rules, selection_rules, PaddingSet, InOne, InTwo, Malformed, few_remain, other_tag, other_length, value_cut, header_rule, over_rule, Differs, block_rules, message_rules, prepare_inputs, prepare_outputs, prepare_rules, answer_inputs, answer_outputs, answer_rules, open_inputs, open_outputs, open_rules, hash_rules, cipher_rules, verdict_rules, block_header_rule, step_rules, list_rules}
use Rattle.transfer.proofs.Decided.{decided_none, decided_unless, decided_or_else, decided_then, decided_when, decided_first, decided_either, lengths_from, decided_lengths}

-- ---- the shape

within_false : (low x high : ℕ) → within low x high ≡ false → (x < low) ⊎ (high < x)
within_false low x high h = side (leb low x) refl h
  where
    side : (t : Bool) → leb low x ≡ t → (t && leb x high) ≡ false → (x < low) ⊎ (high < x)
    side true e f = inr (leb-false x high f)
    side false e f = inl (leb-false low x e)

-- a number from 1 to a bound
some_few : (x high : ℕ) → (within 1 x high ≡ false → (x ≡ 0) ⊎ (high < x)) × (within 1 x high ≡ true → (x ≡ 0) ⊎ (high < x) → ⊥)
some_few x high = (
  λ f. ⊎_elim (λ h. inl (let z : x ≡ 0 = omega arith in z)) (λ h. inr h) (within_false 1 x high f),
  λ f. let b = within_true 1 x high f in ⊎_elim (λ h. omega arith) (λ h. omega arith),
)

two_modes : (mode : ℕ) → 1 ≤ mode → mode ≤ 2 → (mode ≡ 1) ⊎ (mode ≡ 2)
two_modes mode a b = side (ℕ_discrete mode 1)
  where
    side : Dec (mode ≡ 1) → (mode ≡ 1) ⊎ (mode ≡ 2)
    side (yes e) = inl e
    side (no n) = inr (omega arith)

allowed_within : (mode n : ℕ) → (mode ≡ 1) ⊎ (mode ≡ 2) → (within 2 n (most_places mode) ≡ false → Allowed mode n → ⊥) × (within 2 n (most_places mode) ≡ true → (Allowed mode n → ⊥) → ⊥)
allowed_within mode n (inl e) =
    rw e (
      λ f a. ⊎_elim (λ h. ⊎_elim (λ g. omega arith) (λ g. omega arith) (within_false 2 n 2 f)) (λ h. let z : 1 ≡ 2 = h.0 in omega arith) a,
      λ f never. let b = within_true 2 n 2 f in never (inl (refl, omega arith)),
    )
allowed_within mode n (inr e) =
    rw e (
      λ f a. ⊎_elim (λ h. let z : 2 ≡ 1 = h.0 in omega arith) (λ h. ⊎_elim (λ g. omega arith) (λ g. omega arith) (within_false 2 n 256 f)) a,
      λ f never. let b = within_true 2 n 256 f in never (inr (refl, b.0, b.1)),
    )

pub shape_decided : (mode m n l : ℕ) → Decided (shape_rules mode m n l) (shape_verdict mode m n l)
unfolding shape_rules shape_verdict
shape_decided mode m n l =
    decided_unless (within 1 mode 2) 1 0 _ _ (omega arith)
    (λ f. ⊎_elim (λ h. (λ e. omega arith, λ e. omega arith)) (λ h. (λ e. omega arith, λ e. omega arith)) (within_false 1 mode 2 f))
    (λ f x. ⊎_elim x.0 x.1 (known f))
    (λ f.
    decided_unless (within 1 m most_rows) 2 0 _ _ (omega arith) (some_few m most_rows).0 (some_few m most_rows).1
    (λ _.
    decided_unless (within 2 n (most_places mode)) 3 0 _ _ (omega arith) (allowed_within mode n (known f)).0 (allowed_within mode n (known f)).1
    (λ _.
    decided_unless (within 1 l most_bytes) 4 0 _ _ (omega arith) (some_few l most_bytes).0 (some_few l most_bytes).1
    (λ _.
    decided_unless (leb (m * n * l) most_volume) 5 0 _ _ (omega arith) (leb-false (m * n * l) most_volume)
    (λ g x. let y = leb-true (m * n * l) most_volume g in omega arith)
    (λ _. decided_none)))))
  where
    known : within 1 mode 2 ≡ true → (mode ≡ 1) ⊎ (mode ≡ 2)
    known f = let b = within_true 1 mode 2 f in two_modes mode b.0 b.1

-- ---- columns

some_here : (n : ℕ) (p : ℕ → Bool) → some n p ≡ true → (i : ℕ) × (i < n) × (p i ≡ true)
unfolding some
some_here zero p e = absurd (true≢false (sym e))
some_here (suc n) p e = side (p zero) refl e (some_here n (λ i. p (suc i)))
  where
    side : (t : Bool) → p zero ≡ t → pick t true (some n (λ i. p (suc i))) ≡ true → (some n (λ i. p (suc i)) ≡ true → (i : ℕ) × (i < n) × (p (suc i) ≡ true))
        → (i : ℕ) × (i < suc n) × (p i ≡ true)
    side true f z later = (0, omega arith, f)
    side false f z later = let (i, h, g) = later z in (suc i, omega arith, g)

padded-set : (m : ℕ) (s : List ℕ) (i : ℕ) → padded m s i ≡ true → PaddingSet m s i
unfolding padded
padded-set m s i h =
    let (e, l, f) = some_here (col_bytes m * 8 - m) _ h in
    (m + e, omega arith, omega arith, eqb-true _ _ f)

set-padded : (m : ℕ) (s : List ℕ) (i : ℕ) → PaddingSet m s i → padded m s i ≡ true
unfolding padded
set-padded m s i x = side (padded m s i) refl
  where
    side : (t : Bool) → padded m s i ≡ t → padded m s i ≡ true
    side true e = e
    side false e =
        let (j, hm, hj, one) = x in
        let same : m + (j - m) ≡ j = omega arith in
        absurd (eqb-false _ _ (some_none (col_bytes m * 8 - m) _ e (j - m) (omega arith)) (ap (bit_in (col_bytes m) s i) same ∙ one))

-- one set, at a column's own number or with the k columns before it
column_decided : (k m : ℕ) (s : List ℕ) (code : ℕ) → 0 < code → Decided (rule code (Smallest (InOne k m s)) ∷ []) (at_first k (padded m s) code 0)
column_decided k m s code pos =
    decided_first k (padded m s) code 0 _ pos
    (λ i h e. rw (zero-add i) (h, padded-set m s i e))
    (λ q x. (q, x.0, sym (zero-add q), set-padded m s q x.1))

sets_decided : (k m : ℕ) (first second : List ℕ)
    → Decided (rule 9 (Smallest (InTwo k m first second)) ∷ []) (or_else (at_first k (padded m first) 9 0) (at_first k (padded m second) 9 k))
sets_decided k m first second =
    decided_either 9 (InOne k m first) (λ p. (i : ℕ) × (i < k) × (p ≡ k + i) × PaddingSet m second i) (InTwo k m first second)
    (λ p q x y. let h = x.0 in let e = y.2 in omega arith)
    (λ p. (
      λ x. let (i, h, d) = x in ⊎_elim (λ g. inl (rw g.0 (h, g.1))) (λ g. inr (i, h, g.0, g.1)) d,
      λ x. ⊎_elim (λ g. (p, g.0, inl (refl, g.1))) (λ g. (g.0, g.1, inr (g.2, g.3))) x,
    ))
    (column_decided k m first 9 (omega arith))
    (decided_first k (padded m second) 9 k _ (omega arith)
    (λ i h e. (i, h, refl, padded-set m second i e))
    (λ q x. (x.0, x.1, x.2, set-padded m second x.0 x.3)))

-- ---- selections

selections_decided : (m n : ℕ) (selections : List ℕ) → Decided (selection_rules m n selections) (selections_verdict m n selections)
unfolding selections_verdict too_large
selections_decided m n selections =
    decided_first m (too_large n selections) 8 0 _ (omega arith)
    (λ i h e. rw (zero-add i) (h, leb-true n (get_or selections i 0) e))
    (λ q x. (q, x.0, sym (zero-add q), le-leb n (get_or selections q 0) x.1))

-- ---- a message

header_malformed : (message : List ℕ) (place tag len : ℕ) → header_ok message place tag len ≡ false → Malformed message place tag len
unfolding header_ok
header_malformed message place tag len h = fits (leb (place + 3 + len) (length message)) refl h
  where
    sized : (t : Bool) → eqb (be16_at message (place + 1)) len ≡ t → t ≡ false → Malformed message place tag len
    sized true e f = absurd (true≢false f)
    sized false e f = other_length (eqb-false _ _ e)

    tagged : (t : Bool) → eqb (get_or message place 0) tag ≡ t → (t && eqb (be16_at message (place + 1)) len) ≡ false → Malformed message place tag len
    tagged true e f = sized (eqb (be16_at message (place + 1)) len) refl f
    tagged false e f = other_tag (eqb-false _ _ e)

    cut : length message < place + 3 + len → Dec (be16_at message (place + 1) ≡ len) → Malformed message place tag len
    cut l (yes e) = value_cut (rw e l)
    cut l (no n) = other_length n

    fits : (t : Bool) → leb (place + 3 + len) (length message) ≡ t
        → (t && (eqb (get_or message place 0) tag && eqb (be16_at message (place + 1)) len)) ≡ false → Malformed message place tag len
    fits true e f = tagged (eqb (get_or message place 0) tag) refl f
    fits false e f = cut (leb-false _ _ e) (ℕ_discrete (be16_at message (place + 1)) len)

pub header_fits : (message : List ℕ) (place tag len : ℕ) → header_ok message place tag len ≡ true → place + 3 + len ≤ length message
unfolding header_ok
header_fits message place tag len h = leb-true _ _ (both _ _ h).0

header_formed : (message : List ℕ) (place tag len : ℕ) → header_ok message place tag len ≡ true → Malformed message place tag len → ⊥
unfolding header_ok
header_formed message place tag len h x =
    let a = both _ _ h in
    let b = both _ _ a.1 in
    let fits = leb-true _ _ a.0 in
    let says = eqb-true _ _ b.1 in
    let is = eqb-true _ _ b.0 in
    ruled fits is says x
  where
    ruled : place + 3 + len ≤ length message → get_or message place 0 ≡ tag → be16_at message (place + 1) ≡ len → Malformed message place tag len → ⊥
    ruled fits is says (few_remain l) = omega arith
    ruled fits is says (other_tag n) = n is
    ruled fits is says (other_length n) = n says
    ruled fits is says (value_cut l) = omega arith

header_decided : (message : List ℕ) (place tag len : ℕ) {rs : List Rule} {next : Verdict} → (header_ok message place tag len ≡ true → Decided rs next)
    → Decided (header_rule message place tag len ∷ rs) (unless (header_ok message place tag len) 10 place next)
header_decided message place tag len {rs} d =
    decided_unless (header_ok message place tag len) 10 place _ rs (omega arith) (header_malformed message place tag len) (header_formed message place tag len) d

differs_decided : (message : List ℕ) (place n : ℕ) (value : List ℕ) (code : ℕ) → 0 < code
    → Decided (rule code (Smallest (Differs message place n value)) ∷ []) (at_first n (differs message place value) code 0)
unfolding differs
differs_decided message place n value code pos =
    decided_first n (differs message place value) code 0 _ pos
    (λ i h e. rw (zero-add i) (h, eqb-false _ _ (not-true _ e)))
    (λ q x. (q, x.0, sym (zero-add q), ap not (ne_eqb _ _ x.1)))

padding_decided : (tag mode m : ℕ) (message : List ℕ) → Decided (block_rules tag mode m message) (padding_verdict tag mode m message)
unfolding padding_verdict
padding_decided tag mode m message = decided_when (eqb tag 3) _ (column_decided (k_of mode) m (drop block_at message) 13 (omega arith))

-- bytes left over, behind a block that is there
over_decided : (message : List ℕ) (place : ℕ) (rs : List Rule) {next : Verdict} → place ≤ length message → Decided rs next
    → Decided (over_rule message place ∷ rs) (unless (eqb (length message) place) 10 place next)
over_decided message place rs l d =
    decided_unless (eqb (length message) place) 10 place _ rs (omega arith)
    (λ f. let n : length message ≡ place → ⊥ = eqb-false _ _ f in let h : place < length message = omega arith in h)
    (λ f h. let e : length message ≡ place = eqb-true _ _ f in omega arith)
    (λ _. d)

pub received_decided : (tag mode m n l : ℕ) (session message : List ℕ) → Decided (message_rules tag mode m n l session message) (received tag mode m n l session message)
unfolding message_rules received_verdict wired.block_verdict
received_decided tag mode m n l session message =
    header_decided message 0 1 6 (λ _.
    decided_then _ _ (differs_decided message 3 6 (shape_bytes mode m n l) 11 (omega arith))
    (header_decided message session_at 2 12 (λ _.
    decided_then _ _ (differs_decided message (session_at + 3) 12 session 12 (omega arith))
    (header_decided message block_header_at tag (block_length tag mode m n l) (λ e.
    over_decided message (block_at + block_length tag mode m n l) _ (header_fits message block_header_at tag (block_length tag mode m n l) e)
    (padding_decided tag mode m message))))))

-- ---- the operations

lengths_decided : (inputs outputs : List (ℕ × ℕ)) → Decided (length_rules inputs outputs) (lengths_from 6 1 inputs (lengths_from 7 1 outputs pass))
lengths_decided inputs outputs = decided_lengths 6 1 inputs _ (omega arith) (decided_lengths 7 1 outputs _ (omega arith) decided_none)

pub prepare_decided : (seeded : Bool) (mode m n l : ℕ) (session first second selections : List ℕ) (message kept : ℕ)
    → Decided (prepare_rules seeded mode m n l session first second selections message kept) (prepare_verdict seeded mode m n l session first second selections message kept)
unfolding prepare_rules prepare_verdict prepare_lengths sets_padding
prepare_decided seeded mode m n l session first second selections message kept =
    decided_or_else _ _ (shape_decided mode m n l)
    (decided_or_else _ _ (lengths_decided (prepare_inputs seeded mode m session first second selections) (prepare_outputs mode m message kept))
    (decided_or_else _ _ (selections_decided m n selections) (handed seeded)))
  where
    handed : (t : Bool) → Decided (when (not t) (rule 9 (Smallest (InTwo (k_of mode) m first second)) ∷ []))
        (pick t pass (or_else (at_first (k_of mode) (padded m first) 9 0) (at_first (k_of mode) (padded m second) 9 (k_of mode))))
    handed true = decided_none
    handed false = sets_decided (k_of mode) m first second

pub answer_decided : (seeded : Bool) (mode m n l : ℕ) (session secret taken strings columns : List ℕ) (message : ℕ)
    → Decided (answer_rules seeded mode m n l session secret taken strings columns message) (answer_verdict seeded mode m n l session secret taken strings columns message)
unfolding answer_rules answer_verdict answer_lengths taken_padding
answer_decided seeded mode m n l session secret taken strings columns message =
    decided_or_else _ _ (shape_decided mode m n l)
    (decided_or_else _ _ (lengths_decided (answer_inputs seeded mode m n l session secret taken strings) (answer_outputs m n l message))
    (decided_or_else _ _ (handed seeded) (received_decided 3 mode m n l session columns)))
  where
    handed : (t : Bool) → Decided (when (not t) (rule 9 (Smallest (InOne (k_of mode) m taken)) ∷ [])) (pick t pass (at_first (k_of mode) (padded m taken) 9 0))
    handed true = decided_none
    handed false = column_decided (k_of mode) m taken 9 (omega arith)

pub open_decided : (mode m n l : ℕ) (session selections kept message : List ℕ) (opened : ℕ)
    → Decided (open_rules mode m n l session selections kept message opened) (open_verdict mode m n l session selections kept message opened)
unfolding open_rules open_verdict open_lengths
open_decided mode m n l session selections kept message opened =
    decided_or_else _ _ (shape_decided mode m n l)
    (decided_or_else _ _ (lengths_decided (open_inputs mode m session selections kept) (open_outputs m l opened))
    (decided_or_else _ _ (selections_decided m n selections) (received_decided 4 mode m n l session message)))

-- ---- the lower library

pub hash_decided : (input digest : ℕ) → Decided (hash_rules input digest) (hash_verdict input digest)
unfolding hash_rules hash_verdict
hash_decided input digest =
    decided_unless (leb input most_input) 6 1 _ _ (omega arith) (leb-false input most_input)
    (λ f h. let l = leb-true input most_input f in omega arith)
    (λ _.
    decided_unless (eqb digest 32) 7 1 _ _ (omega arith) (eqb-false digest 32) (λ f n. n (eqb-true digest 32 f)) (λ _. decided_none))

pub cipher_decided : (key nonce out : ℕ) → Decided (cipher_rules key nonce out) (block_verdict key nonce out)
unfolding cipher_rules block_verdict
cipher_decided key nonce out = lengths_decided ((key, 32) ∷ (nonce, 12) ∷ []) ((out, 64) ∷ [])

-- ---- the reader's step and the listing

either_tag : (a b : Bool) → (a || b) ≡ true → (a ≡ true) ⊎ (b ≡ true)
either_tag true b e = inl refl
either_tag false b e = inr e

neither_tag : (a b : Bool) → (a || b) ≡ false → (a ≡ false) × (b ≡ false)
neither_tag true b e = absurd (true≢false e)
neither_tag false b e = (refl, e)

block_decided : (message : List ℕ) (s : Shape) {rs : List Rule} {next : Verdict} → Decided rs next
    → Decided (block_header_rule message s ∷ rs) (unless (block_ok message s) 10 block_header_at next)
unfolding block_ok
block_decided message s {rs} d =
    decided_unless (block_ok message s) 10 block_header_at _ rs (omega arith) (fails (eqb (tag_in message) 3 || eqb (tag_in message) 4) refl)
    (λ f x.
    let h = both _ _ f in
    ⊎_elim (λ g. ⊎_elim (λ e. g.0 (eqb-true _ _ e)) (λ e. g.1 (eqb-true _ _ e)) (either_tag _ _ h.0))
    (header_formed message block_header_at (tag_in message) (length_of (tag_in message) s) h.1) x)
    (λ _. d)
  where
    fails : (t : Bool) → (eqb (tag_in message) 3 || eqb (tag_in message) 4) ≡ t → (t && header_ok message block_header_at (tag_in message) (length_of (tag_in message) s)) ≡ false
        → ((tag_in message ≡ 3 → ⊥) × (tag_in message ≡ 4 → ⊥)) ⊎ Malformed message block_header_at (tag_in message) (length_of (tag_in message) s)
    fails true e f = inr (header_malformed message block_header_at (tag_in message) (length_of (tag_in message) s) f)
    fails false e f = let h = neither_tag _ _ e in inl (eqb-false _ _ h.0, eqb-false _ _ h.1)

end_decided : (message : List ℕ) (place : ℕ) → Decided (over_rule message place ∷ []) (unless (leb (length message) place) 10 place pass)
end_decided message place =
    decided_unless (leb (length message) place) 10 place _ [] (omega arith) (leb-false (length message) place)
    (λ f h. let l = leb-true (length message) place f in omega arith)
    (λ _. decided_none)

decided_choose : (t : Bool) (rs ss : List Rule) {a b : Verdict} → Decided rs a → Decided ss b → Decided (choose t rs ss) (pick t a b)
decided_choose true rs ss d e = d
decided_choose false rs ss d e = e

first_decided : (message : List ℕ) → Decided (header_rule message 0 1 6 ∷ verdict_rules (shape_in message)) (unless (header_ok message 0 1 6) 10 0 (verdict_of (shape_in message)))
first_decided message =
    let s = shape_in message in
    header_decided message 0 1 6 (λ _. shape_decided s.mode s.rows s.places s.bytes)

pub step_decided : (message : List ℕ) (c : Cursor) → Decided (step_rules message c) (step_verdict message c)
unfolding step_rules step_verdict
step_decided message c =
    decided_choose (eqb c.place 0) _ _ (first_decided message)
    (decided_choose (eqb c.place session_at) _ _ (header_decided message session_at 2 12 (λ _. decided_none))
    (decided_choose (eqb c.place block_header_at) _ _ (block_decided message c.shape decided_none)
    (end_decided message c.place)))

-- the fourth step of a walk stands behind the block
behind : (message : List ℕ) (s : Shape) (len : ℕ) → step_verdict message (cursor (block_at + len) s) ≡ unless (leb (length message) (block_at + len)) 10 (block_at + len) pass
unfolding step_verdict
behind message s len =
    rw (ne_eqb (block_at + len) 0 (λ e. omega arith), ne_eqb (block_at + len) 9 (λ e. omega arith), ne_eqb (block_at + len) 24 (λ e. omega arith))

pub list_decided : (message : List ℕ) → Decided (list_rules message) (list_verdict message)
unfolding list_rules list_verdict steps_verdict step_verdict shape_rules
list_decided message =
    decided_or_else _ _
    (decided_or_else _ _ (first_decided message)
    (decided_then _ _ (header_decided message session_at 2 12 (λ _. decided_none))
    (decided_then _ _ (block_decided message (shape_in message) decided_none)
    (subst (Decided (over_rule message (block_at + length_in message) ∷ [])) (sym (behind message (shape_in message) (length_in message)))
    (end_decided message (block_at + length_in message))))))
    (padding_decided (tag_in message) (shape_in message).mode (shape_in message).rows message)
