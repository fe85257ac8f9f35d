-- Laws of specs/Sha.antt, in its order: what the loops over the schedule, the rounds and the blocks cite. Assumes nothing.
use Rattle.std.proofs.Common.{◌≡◌, ℕ, zero, suc, ◌+◌, ◌-◌, ◌*◌, ◌/◌, ◌%◌, ◌<◌, ◌≤◌, Bool, List, [], ◌∷◌, ◌++◌, length, get_or, take, drop, set, replicate, sym, refl, ap, ◌∙◌, ap₂, append_assoc, append-nil, add-zero, add-suc, add-one, arith, length-append, length-drop, length-set, drop_of_length-le, take_all, get_or-take, drop-drop, take-suc-set, take_at, drop_at, le-ltb, lt-ltb}
use lib.ListN.{length-replicate, replicate-append-replicate, get_or-append}
use lib.Seq.{take-append-le, drop-append-le, set_at}
use borrow.Rule.Slice.PartMut.{put_mid}
use Rattle.std.specs.Simd.{first_chunks}
use Rattle.basics.specs.Choice.{pick}
use Rattle.basics.specs.Bytes.{be32_at}
use Rattle.symmetric.specs.Values.{Scheduled}
use Rattle.symmetric.specs.Sha.{round_constants, be64, zeros, ending, padded, block_at, expanded, word, schedule, round, rounds, compress, blocks}

-- ---- the padded message

-- section 5.1.1 asks for the fewest zeros after which eight bytes fill the block
pub zeros_fill : (n : ℕ) → (n + 1 + zeros n) % 64 ≡ 56
unfolding zeros
zeros_fill n = omega arith

pub zeros_fewest : (n k : ℕ) → (n + 1 + k) % 64 ≡ 56 → zeros n ≤ k
unfolding zeros
zeros_fewest n k h = omega arith

length-ending : (n : ℕ) → length (ending n) ≡ zeros n + 9
unfolding ending be64
length-ending n = simp (length-append, length-replicate) (omega arith)

pub length-padded : (m : List ℕ) → length (padded m) ≡ (length m + 72) / 64 * 64
unfolding padded zeros
length-padded m = omega (arith, length-append m (ending (length m)), length-ending (length m))

-- a message cut into blocks: block i of n
chunk_at : (n : ℕ) (m : List ℕ) (i : ℕ) (d : List ℕ) → i < n → get_or (first_chunks 64 n m) i d ≡ take 64 (drop (i * 64) m)
chunk_at zero m i d h = absurd (omega arith)
chunk_at (suc n) m zero d h = refl
chunk_at (suc n) m (suc i) d h =
    let e : 64 + i * 64 ≡ suc i * 64 = omega arith in
    chunk_at n (drop 64 m) i d (omega arith) ∙ ap (take 64) (drop-drop (i * 64) 64 m ∙ ap (λ (x : ℕ). drop x m) e)

-- a block that lies whole in the message
pub block_whole : (m : List ℕ) {cs : List (List ℕ)} (i : ℕ) (d : List ℕ) → cs ≡ first_chunks 64 (length m / 64) m → i < length m / 64
    → get_or cs i d ≡ block_at (padded m) i
unfolding block_at padded
block_whole m i d e h =
    let l : 64 ≤ length (drop (i * 64) m) = simp length-drop (omega arith) in
    ap (λ (x : List (List ℕ)). get_or x i d) e
    ∙ chunk_at (length m / 64) m i d h
    ∙ sym (take-append-le 64 (drop (i * 64) m) (ending (length m)) l)
    ∙ ap (take 64) (sym (drop-append-le (i * 64) m (ending (length m)) (omega arith)))

drop-replicate : (n k a : ℕ) → drop n (replicate (n + k) a) ≡ replicate k a
drop-replicate n k a = rw (← replicate-append-replicate) (drop_at (replicate n a) (replicate k a) n (length-replicate n a))

-- the block of the mark: what is left of the message over zeros, and the byte 128 after it
pub marked_is : (s : List ℕ) → length s < 64 → set (s ++ drop (length s) (replicate 64 0)) (length s) 128 ≡ s ++ (128 ∷ replicate (63 - length s) 0)
marked_is s h =
    let e : 64 ≡ length s + suc (63 - length s) = omega arith in
    let d : drop {A = ℕ} (length s) (replicate 64 0) ≡ 0 ∷ replicate (63 - length s) 0
    = ap (λ (n : ℕ). drop {A = ℕ} (length s) (replicate n 0)) e ∙ drop-replicate (length s) (suc (63 - length s)) 0 in
    ap (λ (b : List ℕ). set (s ++ b) (length s) 128) d ∙ set_at s 0 (replicate (63 - length s) 0) 128 (length s) refl

-- the length over the last eight bytes of a block
pub sized_is : (b vs : List ℕ) → length b ≡ 64 → put_mid 56 8 b vs ≡ take 56 b ++ vs
sized_is b vs h =
    ap (λ (t : List ℕ). take 56 b ++ (vs ++ t)) (drop_of_length-le (drop 56 b) {i = 8} (simp length-drop (omega arith)))
    ∙ ap (λ (t : List ℕ). take 56 b ++ t) (append-nil vs)

-- the one or two blocks that follow those that lie whole in the message m
module _ (m : List ℕ) where
  abbrev at : ℕ
  at = length m / 64 * 64

  abbrev left : List ℕ
  left = drop at m

  length-left : length left ≡ length m % 64
  length-left = length-drop at m ∙ omega arith

  -- what is left, the byte 128 and n zeros
  abbrev mark : ℕ → List ℕ
  mark n = left ++ (128 ∷ replicate n 0)

  pub marked_left : {b s : List ℕ} → s ≡ left → b ≡ s ++ (128 ∷ replicate (63 - length s) 0) → b ≡ mark (63 - length left)
  marked_left e f = f ∙ ap (λ (s : List ℕ). s ++ (128 ∷ replicate (63 - length s) 0)) e

  length_mark : (n : ℕ) → length (mark n) ≡ length m % 64 + 1 + n
  length_mark n = length-append left (128 ∷ replicate n 0) ∙ omega (arith, length-left, length-replicate {A = ℕ} n 0)

  mark_add : (n k : ℕ) → mark (n + k) ≡ mark n ++ replicate k 0
  mark_add n k =
      ap (λ (l : List ℕ). left ++ (128 ∷ l)) (sym (replicate-append-replicate n k 0)) ∙ sym (append_assoc left (128 ∷ replicate n 0) (replicate k 0))

  after : (n : ℕ) → zeros (length m) ≡ n → drop at (padded m) ≡ mark n ++ be64 (8 * length m)
  unfolding padded ending
  after n e =
      drop-append-le at m (ending (length m)) (omega arith)
      ∙ ap (λ (k : ℕ). left ++ (128 ∷ (replicate k 0 ++ be64 (8 * length m)))) e
      ∙ sym (append_assoc left (128 ∷ replicate n 0) (be64 (8 * length m)))

  length-be64 : length (be64 (8 * length m)) ≡ 8
  unfolding be64
  length-be64 = refl

  -- the length fits behind the mark
  module _ (fits : length m % 64 < 56) where
    pub count_short : length (padded m) / 64 ≡ length m / 64 + 1
    count_short = omega (arith, length-padded m)

    pub block_short : take 56 (mark (63 - length left)) ++ be64 (8 * length m) ≡ block_at (padded m) (length m / 64)
    unfolding block_at zeros
    block_short =
        let n = 55 - length m % 64 in
        let e : 63 - length left ≡ n + 8 = omega (arith, length-left) in
        let long : length (mark n ++ be64 (8 * length m)) ≤ 64 = omega (arith, length-append (mark n) (be64 (8 * length m)), length_mark n, length-be64) in
        ap (λ (l : List ℕ). take 56 l ++ be64 (8 * length m)) (ap mark e ∙ mark_add n 8)
        ∙ ap (λ (l : List ℕ). l ++ be64 (8 * length m)) (take_at (mark n) (replicate 8 0) 56 (length_mark n ∙ omega arith))
        ∙ sym (ap (take 64) (after n (omega arith)) ∙ take_all 64 (mark n ++ be64 (8 * length m)) long)

  -- the length stands in a block of its own
  module _ (full : 56 ≤ length m % 64) where
    pub count_long : length (padded m) / 64 ≡ length m / 64 + 1 + 1
    count_long = omega (arith, length-padded m)

    two : drop at (padded m) ≡ mark (63 - length left) ++ (replicate 56 0 ++ be64 (8 * length m))
    unfolding zeros
    two =
        let n = 63 - length left in
        after (n + 56) (omega (arith, length-left))
        ∙ ap (λ (l : List ℕ). l ++ be64 (8 * length m)) (mark_add n 56)
        ∙ append_assoc (mark n) (replicate 56 0) (be64 (8 * length m))

    long : length (mark (63 - length left)) ≡ 64
    long = length_mark (63 - length left) ∙ omega (arith, length-left)

    pub block_long : mark (63 - length left) ≡ block_at (padded m) (length m / 64)
    unfolding block_at
    block_long = sym (ap (take 64) two ∙ take_at (mark (63 - length left)) (replicate 56 0 ++ be64 (8 * length m)) 64 long)

    pub block_last : take 56 (replicate 64 0) ++ be64 (8 * length m) ≡ block_at (padded m) (length m / 64 + 1)
    unfolding block_at be64
    block_last =
        let e : (length m / 64 + 1) * 64 ≡ at + 64 = omega arith in
        sym
        (ap (take 64)
        (ap (λ (n : ℕ). drop n (padded m)) e ∙ sym (drop-drop 64 at (padded m)) ∙ ap (drop 64) two
        ∙ drop_at (mark (63 - length left)) (replicate 56 0 ++ be64 (8 * length m)) 64 long))

-- ---- the schedule

length-schedule : (bs : List ℕ) (t : ℕ) → length (schedule bs t) ≡ t
unfolding schedule
length-schedule bs zero = refl
length-schedule bs (suc t) = length-append (schedule bs t) (word bs (schedule bs t) t ∷ []) ∙ omega (arith, length-schedule bs t)

-- its words stay as it grows
schedule_keeps : (bs : List ℕ) (n k t : ℕ) → t < n → get_or (schedule bs (n + k)) t 0 ≡ get_or (schedule bs n) t 0
unfolding schedule
schedule_keeps bs n zero t h = ap (λ (i : ℕ). get_or (schedule bs i) t 0) (add-zero n)
schedule_keeps bs n (suc k) t h =
    ap (λ (i : ℕ). get_or (schedule bs i) t 0) (add-suc n k)
    ∙ get_or-append (schedule bs (n + k)) (word bs (schedule bs (n + k)) (n + k) ∷ []) 0 t (omega (arith, length-schedule bs (n + k)))
    ∙ schedule_keeps bs n k t h

module _ (bs : List ℕ) {w : List ℕ} (n : ℕ) (z : Scheduled bs n w) where
  -- a word that is stored is the whole schedule's
  scheduled_at : (t : ℕ) → t < n → n ≤ 64 → get_or w t 0 ≡ get_or (schedule bs 64) t 0
  scheduled_at t h l =
      let e : n + (64 - n) ≡ 64 = omega arith in
      sym (get_or-take n w t 0 h) ∙ ap (λ (l : List ℕ). get_or l t 0) z.holds ∙ sym (schedule_keeps bs n (64 - n) t h)
      ∙ ap (λ (i : ℕ). get_or (schedule bs i) t 0) e

  back : (k : ℕ) → 16 ≤ n → zero < k → k ≤ 16 → get_or w (n - k) 0 ≡ get_or (schedule bs n) (n - k) 0
  back k h p q = sym (get_or-take n w (n - k) 0 (omega arith)) ∙ ap (λ (l : List ℕ). get_or l (n - k) 0) z.holds

pub scheduled_as : {bs w : List ℕ} {m : ℕ} (n : ℕ) → m ≡ n → Scheduled bs m w → Scheduled bs n w
scheduled_as n e z = rw (sym e) z

pub scheduled_none : (bs w : List ℕ) → length w ≡ 64 → Scheduled bs 0 w
unfolding schedule
scheduled_none bs w h = record { room = h; holds = refl }

-- one more word is stored
module _ (bs : List ℕ) {w : List ℕ} (t n : ℕ) {v : ℕ} (z : Scheduled bs t w) (low : t < 64) (next : n ≡ suc t) where
  stored : v ≡ word bs (schedule bs t) t → Scheduled bs n (set w t v)
  unfolding schedule
  stored e = record {
    room = length-set w t v ∙ z.room;
    holds = rw (next, take-suc-set w t v (omega (arith, z.room))) (ap₂ (λ (l : List ℕ) (x : ℕ). l ++ (x ∷ [])) z.holds e);
  }

  pub scheduled_low : t < 16 → v ≡ be32_at bs (t * 4) → Scheduled bs n (set w t v)
  unfolding word
  scheduled_low h e = stored (e ∙ sym (ap (λ (b : Bool). pick b (be32_at bs (t * 4)) (expanded (schedule bs t) t)) (lt-ltb t 16 h)))

  pub scheduled_high : 16 ≤ t → v ≡ expanded w t → Scheduled bs n (set w t v)
  unfolding word
  scheduled_high h e =
      let b = back bs t z in
      stored
      (e
      ∙ (simp (b 2 h (omega arith) (omega arith), b 7 h (omega arith) (omega arith), b 15 h (omega arith) (omega arith), b 16 h (omega arith) (omega arith)))
      ∙ sym (ap (λ (b : Bool). pick b (be32_at bs (t * 4)) (expanded (schedule bs t) t)) (le-ltb t 16 h)))

-- ---- one more round, one more block

-- over an array that holds the schedule as far as the round
pub rounds_more : (bs h : List ℕ) {w : List ℕ} (m : ℕ) → Scheduled bs m w → (t n : ℕ) {v r : List ℕ} → t < m → m ≤ 64 → n ≡ suc t
    → v ≡ rounds (schedule bs 64) h t → r ≡ round v (get_or round_constants t 0) (get_or w t 0) → r ≡ rounds (schedule bs 64) h n
unfolding rounds
rounds_more bs h m z t n l high next e f =
    f
    ∙ ap₂ (λ (x : List ℕ) (y : ℕ). round x (get_or round_constants t 0) y) e (scheduled_at bs m z t l high)
    ∙ sym (ap (rounds (schedule bs 64) h) next)

pub blocks_more : (bs : List ℕ) (i : ℕ) {h r b : List ℕ} → h ≡ blocks bs i → r ≡ compress h b → b ≡ block_at bs i → r ≡ blocks bs (i + 1)
unfolding blocks
blocks_more bs i e f g = f ∙ ap₂ compress e g ∙ sym (ap (blocks bs) (add-one i))
