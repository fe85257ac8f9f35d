-- Laws of the walk: what a step answers, that it answers the same again behind the end and after a refusal, and that a writer's message is read back.
-- Assumes nothing.
use mathlib.Core.Path.{◌≡◌, refl, sym, ap, ap₂, ◌∙◌}
use mathlib.Core.Bool.{Bool, true, false, ◌||◌}
use mathlib.Core.List.{List, ◌++◌}
use Rattle.std.specs.Prelude.{Result, Ok, Err}
use Prim.Native.Nat.{ℕ, zero, suc, ◌+◌, ◌*◌, ◌/◌, ◌%◌}
use native.Mathlib.Omega.{arith}
use lib.Dec.{eqb}
use lib.ListN.{length, take, drop}
use lib.Seq.{take_at, take-length}
use borrow.Author.Tests.{eq-eqb, ne_eqb, le-leb}
use Rattle.basics.specs.declared.Verdict.{Verdict}
use Rattle.basics.specs.Choice.{pick}
use Rattle.basics.specs.Verdicts.{number, verdict, refusal_of, pass, unless}
use Rattle.basics.proofs.Verdicts.{err_refuses, refusal_back, unless_zero, or_else_ok}
use Rattle.wire.specs.declared.Shape.{Shape}
use Rattle.wire.specs.Shapes.{shape_verdict, verdict_of, length_of}
use Rattle.wire.specs.Message.{session_at, block_header_at, block_at, header, message_of, header_ok}
use Rattle.wire.proofs.Shapes.{shape_zero}
use Rattle.wire.proofs.Received.{own_tag, own_first, own_second, own_third, own_session, own_block, own_length}
use Rattle.reading.specs.declared.Cursor.{Cursor}
use Rattle.basics.specs.declared.Refusal.{Refusal}
use Rattle.basics.specs.declared.Reason as reason
use Rattle.basics.specs.declared.Reason.TheVariants as given
use Rattle.reading.specs.declared.Step as step
use Rattle.reading.specs.declared.Step.TheVariants as case
use Rattle.reading.specs.Reading.{cursor, start, shape_in, tag_in, block_ok, step_verdict, field_at, answer, step_of, number_of, moved_by, after, Stepped, length_in, steps_verdict, walk_verdict}

-- ---- answer

pub answer_refused : {v : Verdict} (e : Refusal) (field : step.Step) → verdict (Err e) ≡ v → case.Refused e ≡ answer v field
unfolding answer
answer_refused {v} e field h =
    ap (λ (x : Refusal). case.Refused x) (sym (refusal_back e) ∙ ap refusal_of h)
    ∙ sym (rw (ne_eqb v.code 0 (λ z. err_refuses e (ap (λ (x : Verdict). x.code) h ∙ z))))

pub answer_field : {v a : Verdict} {r field : step.Step} → v ≡ a → v.code ≡ 0 → r ≡ field → r ≡ answer a field
unfolding answer
answer_field {v} {a} e z f = f ∙ sym (rw (eq-eqb a.code 0 (sym (ap (λ (x : Verdict). x.code) e) ∙ z)))

-- ---- block_ok

module _ (message : List ℕ) (s : Shape) {t : ℕ} (et : t ≡ tag_in message) where
  told : {k b : Bool} → k ≡ (eqb t 3 || eqb t 4) → k ≡ b → (eqb (tag_in message) 3 || eqb (tag_in message) 4) ≡ b
  told ek kb = ap (λ (y : ℕ). eqb y 3 || eqb y 4) (sym et) ∙ sym ek ∙ kb

  pub block_there : {k h : Bool} (len : ℕ) → k ≡ (eqb t 3 || eqb t 4) → k ≡ true → len ≡ length_of t s → h ≡ header_ok message block_header_at t len → h ≡ block_ok message s
  unfolding block_ok
  block_there len ek k el eh =
      eh ∙ ap (λ (x : ℕ). header_ok message block_header_at t x) el ∙ ap (λ (y : ℕ). header_ok message block_header_at y (length_of y s)) et ∙ sym (rw (told ek k))

-- ---- step_verdict, field_at and step_of

pub step_zero : (message : List ℕ) (c : Cursor) → (step_verdict message c).code ≡ 0 → step_verdict message c ≡ pass
unfolding step_verdict
step_zero message c =
    picked (eqb c.place 0) (unless_zero _ 10 0 _ (omega arith) (shape_zero _ _ _ _))
    (picked (eqb c.place session_at) (unless_zero _ 10 session_at pass (omega arith) (λ _. refl))
    (picked (eqb c.place block_header_at) (unless_zero _ 10 block_header_at pass (omega arith) (λ _. refl))
    (unless_zero _ 10 c.place pass (omega arith) (λ _. refl))))
  where
    picked : (t : Bool) {a b : Verdict} → (a.code ≡ 0 → a ≡ pass) → (b.code ≡ 0 → b ≡ pass) → (pick t a b).code ≡ 0 → pick t a b ≡ pass
    picked true x y = x
    picked false x y = y

-- a field and the end are no refusal
field_number : (message : List ℕ) (c : Cursor) → number_of (field_at message c) ≡ pass
unfolding field_at
field_number message c =
    picked (eqb c.place 0) _ _ refl (picked (eqb c.place session_at) _ _ refl (picked (eqb c.place block_header_at) _ _ refl refl))
  where
    picked : (t : Bool) (a b : step.Step) → number_of a ≡ pass → number_of b ≡ pass → number_of (pick t a b) ≡ pass
    picked true a b x y = x
    picked false a b x y = y

module _ (message : List ℕ) (c : Cursor) where
  pub step_field : (step_verdict message c).code ≡ 0 → step_of message c ≡ field_at message c
  unfolding step_of
  step_field h = sym (answer_field refl h refl)

  -- what a step's code shows
  pub stepped_refused : (e : Refusal) → verdict (Err e) ≡ step_verdict message c → Stepped message c (case.Refused e)
  unfolding step_of
  stepped_refused e h = record { answers = answer_refused e (field_at message c) h; number = h }

  pub stepped_field : {v : Verdict} {r : step.Step} → v ≡ step_verdict message c → v.code ≡ 0 → r ≡ field_at message c → Stepped message c r
  unfolding step_of
  stepped_field e z f = record {
    answers = answer_field e z f;
    number = ap number_of f ∙ field_number message c ∙ sym (step_zero message c (sym (ap (λ (x : Verdict). x.code) e) ∙ z));
  }

-- ---- a step's number is its verdict: each refusal of a step is one that the table has

-- some answer has the verdict v
abbrev Answered : Verdict → Type 0
Answered v = (r : Result (Unit {0}) Refusal) × (verdict r ≡ v)

unless_answered : (t : Bool) (why : reason.Reason) (place : ℕ) {next : Verdict} → Answered next → Answered (unless t (number why) place next)
unfolding unless
unless_answered true why place a = a
unless_answered false why place a = (Err (record { reason = why; place = place }), refl)

pass_answered : Answered pass
pass_answered = (Ok tt, refl)

shape_answered : (s : Shape) → Answered (verdict_of s)
unfolding shape_verdict
shape_answered s =
    unless_answered _ given.Mode 0 (unless_answered _ given.Rows 0
    (unless_answered _ given.Places 0 (unless_answered _ given.Bytes 0 (unless_answered _ given.Volume 0 pass_answered))))

step_answered : (message : List ℕ) (c : Cursor) → Answered (step_verdict message c)
unfolding step_verdict
step_answered message c =
    picked (eqb c.place 0) (unless_answered _ given.Field 0 (shape_answered (shape_in message)))
    (picked (eqb c.place session_at) (unless_answered _ given.Field session_at pass_answered)
    (picked (eqb c.place block_header_at) (unless_answered _ given.Field block_header_at pass_answered)
    (unless_answered _ given.Field c.place pass_answered)))
  where
    picked : (t : Bool) {a b : Verdict} → Answered a → Answered b → Answered (pick t a b)
    picked true x y = x
    picked false x y = y

pub step_number : (message : List ℕ) (c : Cursor) → number_of (step_of message c) ≡ step_verdict message c
unfolding step_of
step_number message c = let a = step_answered message c in side a.0 a.1
  where
    side : (r : Result (Unit {0}) Refusal) → verdict r ≡ step_verdict message c → number_of (answer (step_verdict message c) (field_at message c)) ≡ step_verdict message c
    side (Ok x) e = ap number_of (sym (answer_field {r = field_at message c} e refl refl)) ∙ field_number message c ∙ e
    side (Err f) e = ap number_of (sym (answer_refused f (field_at message c) e)) ∙ e

-- ---- a step behind the end or after a refusal gives the same answer again, however often

pub again : (message : List ℕ) (c : Cursor) (r : step.Step) → step_of message c ≡ r → moved_by c r ≡ c → (k : ℕ) → step_of message (after k message c) ≡ r
unfolding after
again message c r e stays k = ap (step_of message) (same k) ∙ e
  where
    same : (k : ℕ) → after k message c ≡ c
    same zero = refl
    same (suc k) = ap (λ (x : Cursor). moved_by x (step_of message x)) (same k) ∙ ap (moved_by c) e ∙ stays

pub again_end : (message : List ℕ) (c : Cursor) → step_of message c ≡ case.End → (k : ℕ) → step_of message (after k message c) ≡ case.End
again_end message c e = again message c case.End e refl

pub again_refused : (message : List ℕ) (c : Cursor) (r : Refusal) → step_of message c ≡ case.Refused r → (k : ℕ) → step_of message (after k message c) ≡ case.Refused r
again_refused message c r e = again message c (case.Refused r) e refl

-- ---- where the walk of a message passes, its four steps give shape, session, block and end

pub record Reads (message : List ℕ) (t₁ t₂ t₃ t₄ : step.Step) : Type 0 where
  pub first : t₁ ≡ case.Shape (shape_in message) (cursor session_at (shape_in message))
  pub second : t₂ ≡ case.Session (session_at + 3) 12 (cursor block_header_at (shape_in message))
  pub third : t₃ ≡ case.Block (tag_in message) block_at (length_in message) (cursor (block_at + length_in message) (shape_in message))
  pub last : t₄ ≡ case.End

end_field : (message : List ℕ) (len : ℕ) (s : Shape) → field_at message (cursor (block_at + len) s) ≡ case.End
unfolding field_at
end_field message len s =
    rw (
      ne_eqb (block_at + len) 0 (λ e. absurd (omega arith)),
      ne_eqb (block_at + len) session_at (λ e. absurd (omega arith)),
      ne_eqb (block_at + len) block_header_at (λ e. absurd (omega arith)),
    )

pub walk_reads : (message : List ℕ) → (walk_verdict message).code ≡ 0
    → Reads message (step_of message start) (step_of message (cursor session_at (shape_in message))) (step_of message (cursor block_header_at (shape_in message)))
    (step_of message (cursor (block_at + length_in message) (shape_in message)))
unfolding steps_verdict field_at
walk_reads message h =
    let a = or_else_ok _ _ h in
    let b = or_else_ok _ _ a.1 in
    let c = or_else_ok _ _ b.1 in
    record {
      first = step_field message start a.0;
      second = step_field message (cursor session_at (shape_in message)) b.0;
      third = step_field message (cursor block_header_at (shape_in message)) c.0;
      last = step_field message (cursor (block_at + length_in message) (shape_in message)) c.1 ∙ end_field message (length_in message) (shape_in message);
    }

-- ---- the writer's message is read back: shape, session, block, end

module _ (tag : ℕ) (s : Shape) (session block : List ℕ) where
  abbrev message : List ℕ
  message = message_of tag s.mode s.rows s.places s.bytes session block

  pub shape_in-message_of : shape_in message ≡ s
  unfolding message_of header shape_in
  shape_in-message_of =
      ap₂ (λ (x y : ℕ). record { mode = s.mode; rows = x; places = y; bytes = s.bytes })
      (let q : s.rows / 256 * 256 + s.rows % 256 ≡ s.rows = omega arith in q)
      (let q : s.places / 256 * 256 + s.places % 256 ≡ s.places = omega arith in q)

-- what the four steps give, and what stands at the places that they name
pub record ReadBack (tag : ℕ) (s : Shape) (session block message : List ℕ) : Type 0 where
  pub first : step_of message start ≡ case.Shape s (cursor 9 s)
  pub second : step_of message (cursor 9 s) ≡ case.Session 12 12 (cursor 24 s)
  pub third : step_of message (cursor 24 s) ≡ case.Block tag 27 (length block) (cursor (27 + length block) s)
  pub last : step_of message (cursor (27 + length block) s) ≡ case.End
  pub session_there : take 12 (drop 12 message) ≡ session
  pub block_whole : take (length block) (drop 27 message) ≡ block

module _ (tag : ℕ) (s : Shape) (session block : List ℕ) (ok : (verdict_of s).code ≡ 0) (hs : length session ≡ 12)
    (ht : (eqb tag 3 || eqb tag 4) ≡ true) (hb : length block ≡ length_of tag s) where
  abbrev sent : List ℕ
  sent = message_of tag s.mode s.rows s.places s.bytes session block

  made : sent ≡ header tag (length block) s.mode s.rows s.places s.bytes session ++ block
  unfolding message_of
  made = refl

  tag_there : tag_in sent ≡ tag
  tag_there = own_tag tag (length block) s.mode s.rows s.places s.bytes session block sent made hs

  verdict_first : (step_verdict sent start).code ≡ 0
  unfolding step_verdict unless
  verdict_first = rw (own_first tag (length block) s.mode s.rows s.places s.bytes session block sent made hs, shape_in-message_of tag s session block) ok

  verdict_second : (step_verdict sent (cursor 9 s)).code ≡ 0
  unfolding step_verdict unless
  verdict_second = rw (own_second tag (length block) s.mode s.rows s.places s.bytes session block sent made hs)

  block_ok_lem : true ≡ block_ok sent s
  block_ok_lem =
      block_there sent s (sym tag_there) (length block) refl ht hb
      (sym (own_third tag (length block) s.mode s.rows s.places s.bytes session block sent made hs refl))

  verdict_third : (step_verdict sent (cursor 24 s)).code ≡ 0
  unfolding step_verdict unless
  verdict_third = rw (sym block_ok_lem)

  long : length sent ≡ 27 + length block
  long = own_length tag (length block) s.mode s.rows s.places s.bytes session block sent made hs

  verdict_last : (step_verdict sent (cursor (27 + length block) s)).code ≡ 0
  unfolding step_verdict unless
  verdict_last =
      rw (
        ne_eqb (27 + length block) 0 (λ e. absurd (omega arith)),
        ne_eqb (27 + length block) 9 (λ e. absurd (omega arith)),
        ne_eqb (27 + length block) 24 (λ e. absurd (omega arith)),
        le-leb (length sent) (27 + length block) (omega (arith, long)),
      )

  pub read_back : ReadBack tag s session block sent
  unfolding field_at
  read_back = record {
    first = step_field sent start verdict_first ∙ ap (λ (x : Shape). case.Shape x (cursor 9 x)) (shape_in-message_of tag s session block);
    second = step_field sent (cursor 9 s) verdict_second;
    third = step_field sent (cursor 24 s) verdict_third
        ∙ ap (λ (t : ℕ). case.Block t 27 (length_of t s) (cursor (27 + length_of t s) s)) tag_there
        ∙ ap (λ (x : ℕ). case.Block tag 27 x (cursor (27 + x) s)) (sym hb);
    last = step_field sent (cursor (27 + length block) s) verdict_last ∙ end_field sent (length block) s;
    session_there = ap (take 12) (own_session tag (length block) s.mode s.rows s.places s.bytes session block sent made hs)
        ∙ take_at session (drop 24 sent) 12 hs;
    block_whole = ap (take (length block)) (own_block tag (length block) s.mode s.rows s.places s.bytes session block sent made hs)
        ∙ take-length block;
  }
