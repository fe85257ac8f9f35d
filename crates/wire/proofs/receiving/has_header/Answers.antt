use Rattle.std.proofs.Common.{◌≡◌, ◌≢◌, Bool, true, false, ◌&&◌, refl, ◌+◌, ◌-◌, ◌<◌, ◌≤◌, ◌∙◌, ℕ, List, length, get_or, take, drop, ap, sym, arith}
use Rattle.std.proofs.Math.Seq.{take_all, get_or-drop}
use Rattle.std.proofs.lemmas.List.{length-drop}
use borrow.Author.Tests.{le-leb, lt-leb, eq-eqb, ne_eqb}
use native.Mathlib.Nat.{add-zero}
use lib.Dec.{eqb}
use Rattle.basics.specs.Bytes.{be16_at}
use Rattle.wire.specs.Message.{header_ok}
use Rattle.wire.proofs.receiving.has_header.Goals as goal

-- what is left of a message from `at` on, byte by byte and in length
rest : (m : List ℕ) (at : ℕ) → take (length m - at) (drop at m) ≡ drop at m
rest m at = take_all (length m - at) (drop at m) (simp length-drop (omega arith))

at_rest : (m : List ℕ) (at k : ℕ) → get_or (take (length m - at) (drop at m)) k 0 ≡ get_or m (at + k) 0
at_rest m at k = ap (λ (t : List ℕ). get_or t k 0) (rest m at) ∙ get_or-drop at m k 0

after_rest : (m : List ℕ) (at : ℕ) → length (take (length (take (length m - at) (drop at m)) - 3) (drop 3 (take (length m - at) (drop at m)))) ≡ length m - at - 3
after_rest m at =
    rw (rest m at)
    (ap length (take_all (length (drop at m) - 3) (drop 3 (drop at m)) (simp length-drop (omega arith))) ∙ simp length-drop (omega arith))

both_false_right : (b : Bool) {d : Bool} → d ≡ false → (b && d) ≡ false
both_false_right true e = e
both_false_right false e = refl

pub returns-then-message-at : goal.returns-then-message-at
unfolding header_ok
returns-then-message-at c =
    let a = c.args in
    let h : length a.message.now < a.at + 3 + a.len = omega arith in
    simp (lt-leb (a.at + 3 + a.len) (length a.message.now) h)

pub returns-in_default : goal.returns-in_default
unfolding header_ok
returns-in_default c =
    let a = c.args in
    let h : length a.message.now < a.at + 3 + a.len = omega (arith, ap length (rest a.message.now a.at), length-drop a.at a.message.now, c.in_default.len_below) in
    simp (lt-leb (a.at + 3 + a.len) (length a.message.now) h)

pub returns-then-first-tag : goal.returns-then-first-tag
unfolding header_ok
returns-then-first-tag c =
    let a = c.args in
    let h : a.at + 3 ≤ length a.message.now = omega (arith, ap length (rest a.message.now a.at), length-drop a.at a.message.now, c.in-len3-up.len_at_least) in
    let first : get_or a.message.now a.at 0 ≢ a.tag = λ e. c.if-first-tag.true (at_rest a.message.now a.at 0 ∙ ap (λ (n : ℕ). get_or a.message.now n 0) (add-zero a.at) ∙ e) in
    sym (both_false_right _ (ap (λ (b : Bool). b && eqb (be16_at a.message.now (a.at + 1)) a.len) (ne_eqb (get_or a.message.now a.at 0) a.tag first)))

pub returns-then-value-len : goal.returns-then-value-len
unfolding header_ok
returns-then-value-len c =
    let a = c.args in
    let h : length a.message.now < a.at + 3 + a.len = omega (arith, after_rest a.message.now a.at, c.if-value-len.true) in
    simp (lt-leb (a.at + 3 + a.len) (length a.message.now) h)

pub returns : goal.returns
unfolding header_ok
returns c =
    let a = c.args in
    let m = a.message.now in
    let h : a.at + 3 + a.len ≤ length m = omega (arith, after_rest m a.at, ap length (rest m a.at), length-drop a.at m, c.in-len3-up.len_at_least, c.if-value-len.false) in
    let first : get_or m a.at 0 ≡ a.tag = sym (ap (λ (n : ℕ). get_or m n 0) (add-zero a.at)) ∙ sym (at_rest m a.at 0) ∙ c.if-first-tag.false in
    let second : a.at + 1 + 1 ≡ a.at + 2 = omega arith in
    simp (le-leb (a.at + 3 + a.len) (length m) h, eq-eqb (get_or m a.at 0) a.tag first, c.number.ensures, at_rest, second)
