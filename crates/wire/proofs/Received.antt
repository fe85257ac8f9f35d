-- Laws of a received message: the bytes compared, and what a verdict of 0 says. Assumes nothing.
use mathlib.Core.Path.{◌≡◌, refl, sym, ap, ap₂, subst, ◌∙◌}
use mathlib.Core.Bool.{Bool, true, false, not}
use mathlib.Core.List.{List, ◌∷◌, ◌++◌, append_assoc}
use Prim.Native.Nat.{ℕ, suc, ◌+◌, ◌-◌, ◌*◌, ◌/◌, ◌%◌, ◌^◌, ◌<◌, ◌≤◌}
use native.Mathlib.Nat.{add-zero, zero-div}
use native.Mathlib.Numerals.{add-one}
use native.Mathlib.Omega.{arith}
use lib.Dec.{eqb}
use lib.ListN.{length, get_or, take, drop, length-append, length-drop, drop_of_length-le, take-append-drop, get_or-append}
use lib.Seq.{drop-cons, drop-drop, drop_at, get_or-take, get_or-drop, length-take-le, ext_get_or}
use borrow.Author.Tests.{eq-eqb, ne_eqb, eqb-true, leb-true, le-leb, not-false}
use Rattle.basics.specs.declared.Verdict.{Verdict}
use Rattle.basics.specs.Choice.{pick}
use Rattle.basics.specs.Bytes.{Bytes, bit, be16_at}
use Rattle.basics.specs.Padding.{padded, Clear}
use Rattle.basics.specs.Verdicts.{pass, at_first}
use Rattle.basics.proofs.Padding.{padded_clear, clear_padded}
use Rattle.basics.proofs.Verdicts.{go, unless_ok, or_else_ok, at_first_ok, at_first_none, unless_go, equal_go}
use Rattle.basics.proofs.Choice.{both}
use Rattle.wire.specs.Shapes.{k_of}
use Rattle.wire.specs.Message.{block_at, field_header, shape_bytes, header, message_of, header_ok}
use Rattle.wire.specs.Received.{differs, padding_verdict, block_verdict, received_verdict}
use Rattle.wire.proofs.Message.{length-header}

-- ---- differs

module _ (message : List ℕ) (at : ℕ) (value : List ℕ) (i : ℕ) {x y : ℕ} where
  pub differs_not : x ≡ get_or message (at + i) 0 → y ≡ get_or value i 0 → x ≡ y → differs message at value i ≡ false
  unfolding differs
  differs_not ex ey e = ap not (eq-eqb _ _ (sym ex ∙ e ∙ ey))

  pub differs_here : x ≡ get_or message (at + i) 0 → y ≡ get_or value i 0 → (x ≡ y → ⊥) → differs message at value i ≡ true
  unfolding differs
  differs_here ex ey n = ap not (ne_eqb _ _ (λ e. n (ex ∙ e ∙ sym ey)))

pub differs_same : (message : List ℕ) (at : ℕ) (value : List ℕ) (i : ℕ) → differs message at value i ≡ false → get_or message (at + i) 0 ≡ get_or value i 0
unfolding differs
differs_same message at value i h = eqb-true _ _ (not-false _ h)

-- ---- a header, and what stands after it

pub header_read : (message : List ℕ) (at tag len : ℕ) → Bytes message → header_ok message at tag len ≡ true
    → (drop at message ≡ field_header tag len ++ drop (at + 3) message) × (at + 3 + len ≤ length message)
unfolding header_ok
header_read message at tag len bytes h =
    let a = both _ _ h in
    let b = both _ _ a.1 in
    let fits : at + 3 + len ≤ length message = leb-true _ _ a.0 in
    let t0 : get_or message at 0 ≡ tag = eqb-true _ _ b.0 in
    let both : get_or message (at + 1) 0 * 256 + get_or message (at + 1 + 1) 0 ≡ len = eqb-true _ _ b.1 in
    let small : get_or message (at + 1 + 1) 0 < 256 = bytes (at + 1 + 1) in
    let t1 : get_or message (at + 1) 0 ≡ len / 256 = omega arith in
    let t2 : get_or message (at + 1 + 1) 0 ≡ len % 256 = omega arith in
    (three t0 t1 t2 (omega arith), fits)
  where
    three : get_or message at 0 ≡ tag → get_or message (at + 1) 0 ≡ len / 256 → get_or message (at + 1 + 1) 0 ≡ len % 256 → at + 3 ≤ length message
        → drop at message ≡ field_header tag len ++ drop (at + 3) message
    three t0 t1 t2 fits =
        drop-cons message at 0 (omega arith)
        ∙ ap₂ (λ (x : ℕ) (s : List ℕ). x ∷ s) t0
        (ap (λ (n : ℕ). drop n message) (sym (add-one at)) ∙ drop-cons message (at + 1) 0 (omega arith)
        ∙ ap₂ (λ (x : ℕ) (s : List ℕ). x ∷ s) t1
        (ap (λ (n : ℕ). drop n message) (sym (add-one (at + 1))) ∙ drop-cons message (at + 1 + 1) 0 (omega arith)
        ∙ ap₂ (λ (x : ℕ) (s : List ℕ). x ∷ s) t2 (ap (λ (n : ℕ). drop n message) (let q : suc (at + 1 + 1) ≡ at + 3 = omega arith in q))))

pub header_there : (message rest : List ℕ) (at tag len : ℕ) → drop at message ≡ field_header tag len ++ rest → len ≤ length rest → header_ok message at tag len ≡ true
unfolding header_ok
header_there message rest at tag len e h =
    let long : length message - at ≡ suc (suc (suc (length rest))) = sym (length-drop at message) ∙ ap length e in
    let t0 : get_or message at 0 ≡ tag = ap (λ (n : ℕ). get_or message n 0) (sym (add-zero at)) ∙ sym (get_or-drop at message 0 0) ∙ ap (λ (s : List ℕ). get_or s 0 0) e in
    let t1 : get_or message (at + 1) 0 ≡ len / 256 = sym (get_or-drop at message 1 0) ∙ ap (λ (s : List ℕ). get_or s 1 0) e in
    let t2 : get_or message (at + 1 + 1) 0 ≡ len % 256
    = ap (λ (n : ℕ). get_or message n 0) (let q : at + 1 + 1 ≡ at + 2 = omega arith in q) ∙ sym (get_or-drop at message 2 0) ∙ ap (λ (s : List ℕ). get_or s 2 0) e in
    rw (le-leb (at + 3 + len) (length message) (omega arith), eq-eqb (get_or message at 0) tag t0, eq-eqb (be16_at message (at + 1)) len (omega arith))

-- ---- a value that was compared, and what stands after it

pub value_read : (message value : List ℕ) (at n : ℕ) → length value ≡ n → at + n ≤ length message → ((k : ℕ) → k < n → differs message at value k ≡ false)
    → drop at message ≡ value ++ drop (at + n) message
value_read message value at n hv fits same =
    sym (take-append-drop n (drop at message))
    ∙ ap₂ (λ (a b : List ℕ). a ++ b)
    (ext_get_or 0 (take n (drop at message)) value (long ∙ sym hv)
    (λ i h. let k : i < n = omega (arith, long) in get_or-take n (drop at message) i 0 k ∙ get_or-drop at message i 0 ∙ differs_same message at value i (same i k)))
    (drop-drop n at message)
  where
    long : length (take n (drop at message)) ≡ n
    long = length-take-le n (drop at message) (simp length-drop (omega arith))

pub value_there : (message value rest : List ℕ) (at : ℕ) → drop at message ≡ value ++ rest → (k : ℕ) → k < length value → differs message at value k ≡ false
value_there message value rest at e k h =
    differs_not message at value k refl refl (sym (get_or-drop at message k 0) ∙ ap (λ (s : List ℕ). get_or s k 0) e ∙ get_or-append value rest 0 k h)

-- ---- the whole message

-- what a message that passed is: the sender's header and a block of the right length, with clear padding where it is columns
pub record Received (tag len mode m n l : ℕ) (session message : List ℕ) : Type 0 where
  pub sent : message ≡ header tag len mode m n l session ++ drop block_at message
  pub long : length message ≡ block_at + len
  pub block_long : length (drop block_at message) ≡ len
  pub clear : tag ≡ 3 → (i : ℕ) → i < k_of mode → Clear m (drop block_at message) i

pub padding_ok : (tag mode m : ℕ) (message : List ℕ) → (padding_verdict tag mode m message).code ≡ 0 → tag ≡ 3 → (i : ℕ) → i < k_of mode → Clear m (drop block_at message) i
unfolding padding_verdict
padding_ok tag mode m message h e i hi =
    padded_clear m (drop block_at message) i (at_first_ok (k_of mode) (padded m (drop block_at message)) 13 0 (omega arith) (rw (eq-eqb tag 3 e) at h) i hi)

pub padding_clear : (tag mode m : ℕ) (message : List ℕ) → (tag ≡ 3 → (i : ℕ) → i < k_of mode → Clear m (drop block_at message) i) → padding_verdict tag mode m message ≡ pass
unfolding padding_verdict
padding_clear tag mode m message z = cases (eqb tag 3) refl
  where
    cases : (b : Bool) → eqb tag 3 ≡ b → pick b (at_first (k_of mode) (padded m (drop block_at message)) 13 0) pass ≡ pass
    cases true e = at_first_none (k_of mode) (padded m (drop block_at message)) 13 0 (λ i h. clear_padded m (drop block_at message) i (z (eqb-true tag 3 e) i h))
    cases false e = refl

-- an empty block has none set
pub padding_none : (tag mode m : ℕ) (message : List ℕ) → length message < 27 → padding_verdict tag mode m message ≡ pass
padding_none tag mode m message h = padding_clear tag mode m message (λ e i l j hm hj. rw (drop_of_length-le message {i = 27} (omega arith)) (zeros (j % 8)))
  where
    zeros : (e : ℕ) → bit 0 e ≡ 0
    zeros e = ap (λ (x : ℕ). x % 2) (zero-div (2 ^ e))

five_parts : (a b c d e r : List ℕ) → ((a ++ b) ++ ((c ++ d) ++ e)) ++ r ≡ a ++ (b ++ (c ++ (d ++ (e ++ r))))
five_parts a b c d e r = simp append_assoc

-- the sender's message, part by part
module _ (tag len mode m n l : ℕ) (session block message : List ℕ) (e : message ≡ header tag len mode m n l session ++ block) (hs : length session ≡ 12) where
  parts : message ≡ field_header 1 6 ++ (shape_bytes mode m n l ++ (field_header 2 12 ++ (session ++ (field_header tag len ++ block))))
  unfolding header
  parts = e ∙ five_parts (field_header 1 6) (shape_bytes mode m n l) (field_header 2 12) session (field_header tag len) block

  drop_24 : drop 24 message ≡ field_header tag len ++ block
  drop_24 = ap (λ (s : List ℕ). drop 24 s) parts ∙ drop_at session (field_header tag len ++ block) 12 hs

  pub own_shape : drop 3 message ≡ shape_bytes mode m n l ++ drop 9 message
  own_shape = ap (λ (s : List ℕ). drop 3 s) parts ∙ ap (λ (s : List ℕ). shape_bytes mode m n l ++ s) (sym (ap (λ (s : List ℕ). drop 9 s) parts))

  pub own_session : drop 12 message ≡ session ++ drop 24 message
  own_session = ap (λ (s : List ℕ). drop 12 s) parts ∙ ap (λ (s : List ℕ). session ++ s) (sym drop_24)

  pub own_tag : get_or message 24 0 ≡ tag
  own_tag = sym (get_or-drop 24 message 0 0) ∙ ap (λ (s : List ℕ). get_or s 0 0) drop_24

  pub own_block : drop 27 message ≡ block
  own_block = sym (drop-drop 3 24 message) ∙ ap (λ (s : List ℕ). drop 3 s) drop_24

  pub own_length : length message ≡ 27 + length block
  own_length = ap length e ∙ length-append (header tag len mode m n l session) block ∙ omega (arith, length-header tag len mode m n l session hs)

  pub own_first : header_ok message 0 1 6 ≡ true
  own_first = header_there message _ 0 1 6 (ap (λ (s : List ℕ). drop 0 s) parts) (omega arith)

  pub own_second : header_ok message 9 2 12 ≡ true
  own_second = header_there message (session ++ (field_header tag len ++ block)) 9 2 12 (ap (λ (s : List ℕ). drop 9 s) parts) (simp length-append (omega arith))

  pub own_third : length block ≡ len → header_ok message 24 tag len ≡ true
  own_third hb = header_there message block 24 tag len drop_24 (omega arith)

module _ (tag len mode m n l : ℕ) (session message : List ℕ) where
  -- a verdict of 0 tells that the message is what its sender writes
  pub received_ok : Bytes message → length session ≡ 12 → (received_verdict tag len mode m n l session message).code ≡ 0 → Received tag len mode m n l session message
  unfolding received_verdict block_verdict header
  received_ok bytes hs h =
      let f1 = unless_ok (header_ok message 0 1 6) _ _ _ (omega arith) h in
      let v1 = or_else_ok _ _ f1.1 in
      let f2 = unless_ok (header_ok message 9 2 12) _ _ _ (omega arith) v1.1 in
      let v2 = or_else_ok _ _ f2.1 in
      let f3 = unless_ok (header_ok message 24 tag len) _ _ _ (omega arith) v2.1 in
      let end = unless_ok (eqb (length message) (block_at + len)) _ _ _ (omega arith) f3.1 in
      let long : length message ≡ block_at + len = eqb-true _ _ end.0 in
      let h1 = header_read message 0 1 6 bytes f1.0 in
      let h2 = header_read message 9 2 12 bytes f2.0 in
      let h3 = header_read message 24 tag len bytes f3.0 in
      let b1 = value_read message (shape_bytes mode m n l) 3 6 refl (omega arith) (at_first_ok 6 _ 11 0 (omega arith) v1.0) in
      let b2 = value_read message session 12 12 hs (omega arith) (at_first_ok 12 _ 12 0 (omega arith) v2.0) in
      record {
        sent = h1.0 ∙ ap (λ (s : List ℕ). field_header 1 6 ++ s) (b1 ∙ ap (λ (s : List ℕ). shape_bytes mode m n l ++ s)
            (h2.0 ∙ ap (λ (s : List ℕ). field_header 2 12 ++ s) (b2 ∙ ap (λ (s : List ℕ). session ++ s) h3.0)))
            ∙ sym (five_parts (field_header 1 6) (shape_bytes mode m n l) (field_header 2 12) session (field_header tag len) (drop block_at message));
        long = long;
        block_long = length-drop block_at message ∙ omega arith;
        clear = padding_ok tag mode m message end.1;
      }

  -- the sender's message passes
  pub received_own : (block : List ℕ) → message ≡ header tag len mode m n l session ++ block → length session ≡ 12 → length block ≡ len
      → (tag ≡ 3 → (i : ℕ) → i < k_of mode → Clear m block i) → received_verdict tag len mode m n l session message ≡ pass
  unfolding received_verdict block_verdict header
  received_own block e hs hb clear =
      let v1 = at_first_none 6 (differs message 3 (shape_bytes mode m n l)) 11 0
      (value_there message (shape_bytes mode m n l) _ 3 (own_shape tag len mode m n l session block message e hs)) in
      let v2 = at_first_none 12 (differs message 12 session) 12 0
      (λ k h. value_there message session _ 12 (own_session tag len mode m n l session block message e hs) k (omega arith)) in
      let long : length message ≡ 27 + len = own_length tag len mode m n l session block message e hs ∙ omega arith in
      sym
      (unless_go _ _ (sym (own_first tag len mode m n l session block message e hs)) refl (go (sym v1) refl
      (unless_go _ _ (sym (own_second tag len mode m n l session block message e hs)) refl (go (sym v2) refl
      (unless_go _ _ (sym (own_third tag len mode m n l session block message e hs hb)) refl
      (equal_go _ _ long
      (sym (padding_clear tag mode m message
      (λ t. subst (λ (s : List ℕ). (i : ℕ) → i < k_of mode → Clear m s i) (sym (own_block tag len mode m n l session block message e hs)) (clear t))))))))))

  -- the same from a call's answer, and for the message as a whole
  pub received_passed : {v : Verdict} → v ≡ received_verdict tag len mode m n l session message → v.code ≡ 0 → Bytes message → length session ≡ 12
      → Received tag len mode m n l session message
  received_passed {v} e z bytes hs = received_ok bytes hs (sym (ap (λ (x : Verdict). x.code) e) ∙ z)

pub received-message_of : (tag len mode m n l : ℕ) (session block : List ℕ) → length session ≡ 12 → length block ≡ len → (tag ≡ 3 → (i : ℕ) → i < k_of mode → Clear m block i)
    → received_verdict tag len mode m n l session (message_of tag mode m n l session block) ≡ pass
unfolding message_of
received-message_of tag len mode m n l session block hs hb clear =
    received_own tag len mode m n l session (message_of tag mode m n l session block) block
    (ap (λ (x : ℕ). header tag x mode m n l session ++ block) hb) hs hb clear
