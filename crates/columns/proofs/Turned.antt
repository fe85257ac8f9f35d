-- Laws of turning: the bits of a swap, three swaps turn eight bytes, and what the bytes of a turned number are. Assumes nothing.
use mathlib.Core.Path.{◌≡◌, refl, sym, ap, ap₂, ◌∙◌}
use mathlib.Core.Bool.{Bool, true, false, ◌&&◌, not, true≢false}
use mathlib.Core.List.{List}
use Prim.Native.Nat.{ℕ, zero, suc, ◌+◌, ◌-◌, ◌*◌, ◌/◌, ◌%◌, ◌^◌, ◌≤◌, ◌<◌, min}
use native.Mathlib.Nat.{mod-lt, zero-add, min-zero, min-eq_left, lt_of_le_of_lt, lt_of_lt_of_le, le_of_suc-le-suc}
use native.Mathlib.Omega.{arith}
use lib.Bits.{bit_xor, bit_and, differ, xor_lt, and_le_l, xor_shr, xor_mod, and_shr, and_mod}
use lib.Dec.{eqb, leb, ltb}
use lib.ListN.{get_or}
use lib.Pow.{pow_pos, shr_le, pow_mono}
use borrow.Author.Tests.{eqb-true, eqb-false, leb-true, leb-false, ltb-true, not-true}
use Rattle.basics.specs.Choice.{pick}
use Rattle.basics.specs.Bytes.{pack, bit}
use Rattle.basics.proofs.Choice.{both}
use Rattle.basics.proofs.Bytes.{bit_small, bit-xor, pack-bit, pack_ext, pack_of, pack_small}
use Rattle.basics.proofs.Bits.{pack-append, pack_field, bit-and, bit-shr, bit-shl, bit-shl_low, bit_cut, every, every_at}
use Rattle.words.proofs.Parity.{differ_zero}
use Rattle.columns.specs.Turned.{eight_bytes, swapped, turned, byte_of, eight_times, joined_words}
use Rattle.columns.specs.Gathered.{gathered, joined}

-- ---- digits that differ

differ_undo : (x y : ℕ) → x < 2 → y < 2 → differ x (differ x y) ≡ y
differ_undo zero y hx hy = refl
differ_undo (suc zero) zero hx hy = refl
differ_undo (suc zero) (suc zero) hx hy = refl
differ_undo (suc zero) (suc (suc y)) hx hy = absurd (omega arith)
differ_undo (suc (suc x)) y hx hy = absurd (omega arith)

differ_twice : (x y : ℕ) → x < 2 → y < 2 → differ x (differ y x) ≡ y
differ_twice zero y hx hy = differ_zero y
differ_twice (suc zero) zero hx hy = refl
differ_twice (suc zero) (suc zero) hx hy = refl
differ_twice (suc zero) (suc (suc y)) hx hy = absurd (omega arith)
differ_twice (suc (suc x)) y hx hy = absurd (omega arith)

pub differ_small : (x y : ℕ) → x < 2 → y < 2 → differ x y < 2
differ_small zero y hx hy = hy
differ_small (suc zero) zero hx hy = omega arith
differ_small (suc zero) (suc y) hx hy = omega arith
differ_small (suc (suc x)) y hx hy = absurd (omega arith)

-- ---- a swap

-- bit n is of the mask, or stands `by` places above one of it
abbrev lower : ℕ → ℕ → Bool
lower mask n = eqb (bit mask n) 1

abbrev upper : ℕ → ℕ → ℕ → Bool
upper mask by n = leb by n && eqb (bit mask (n - by)) 1

-- the place that bit n comes from
abbrev origin : ℕ → ℕ → ℕ → ℕ
origin mask by n = pick (lower mask n) (by + n) (pick (upper mask by n) (n - by) n)

module _ (mask by x : ℕ) where
  -- the bits of the mask at which x differs from its bit `by` places above
  moved : ℕ
  moved = bit_and (bit_xor x (x / 2 ^ by)) mask

  bit_moved : (n : ℕ) → bit moved n ≡ min (differ (bit x n) (bit x (by + n))) (bit mask n)
  unfolding moved
  bit_moved n =
      bit-and (bit_xor x (x / 2 ^ by)) mask n
      ∙ ap (λ (a : ℕ). min a (bit mask n)) (bit-xor x (x / 2 ^ by) n ∙ ap (differ (bit x n)) (bit-shr x by n))

  moved_none : (n : ℕ) → lower mask n ≡ false → bit moved n ≡ 0
  moved_none n e =
      let z : bit mask n ≡ 0 = omega (arith, bit_small mask n, eqb-false (bit mask n) 1 e) in
      bit_moved n ∙ ap (min (differ (bit x n) (bit x (by + n)))) z ∙ min-zero (differ (bit x n) (bit x (by + n)))

  moved_some : (n : ℕ) → lower mask n ≡ true → bit moved n ≡ differ (bit x n) (bit x (by + n))
  moved_some n e =
      bit_moved n ∙ ap (min (differ (bit x n) (bit x (by + n)))) (eqb-true (bit mask n) 1 e)
      ∙ min-eq_left (le_of_suc-le-suc (differ_small (bit x n) (bit x (by + n)) (bit_small x n) (bit_small x (by + n))))

  -- the same, `by` places higher
  raised_none : (n : ℕ) → n < 64 → upper mask by n ≡ false → bit (moved * 2 ^ by % 2 ^ 64) n ≡ 0
  raised_none n h e = bit_cut (moved * 2 ^ by) 64 n h ∙ side (leb by n) refl
    where
      side : (t : Bool) → leb by n ≡ t → bit (moved * 2 ^ by) n ≡ 0
      side false l = bit-shl_low moved by n (leb-false by n l)
      side true l =
          let split : by + (n - by) ≡ n = omega (arith, leb-true by n l) in
          ap (bit (moved * 2 ^ by)) (sym split) ∙ bit-shl moved by (n - by)
          ∙ moved_none (n - by) (ap (λ (t : Bool). t && eqb (bit mask (n - by)) 1) (sym l) ∙ e)

  raised_some : (n : ℕ) → n < 64 → upper mask by n ≡ true → bit (moved * 2 ^ by % 2 ^ 64) n ≡ differ (bit x (n - by)) (bit x n)
  raised_some n h e =
      let (l, u) = both (leb by n) (eqb (bit mask (n - by)) 1) e in
      let split : by + (n - by) ≡ n = omega (arith, leb-true by n l) in
      bit_cut (moved * 2 ^ by) 64 n h ∙ ap (bit (moved * 2 ^ by)) (sym split) ∙ bit-shl moved by (n - by) ∙ moved_some (n - by) u
      ∙ ap (λ (p : ℕ). differ (bit x (n - by)) (bit x p)) split

  pub bit-swapped : (n : ℕ) → n < 64 → (lower mask n && upper mask by n) ≡ false → bit (swapped mask by x) n ≡ bit x (origin mask by n)
  unfolding swapped moved
  bit-swapped n h apart =
      bit-xor (bit_xor x moved) (moved * 2 ^ by % 2 ^ 64) n ∙ ap (λ (a : ℕ). differ a (bit (moved * 2 ^ by % 2 ^ 64) n)) (bit-xor x moved n)
      ∙ side (lower mask n) (upper mask by n) refl refl apart
    where
      side : (a b : Bool) → lower mask n ≡ a → upper mask by n ≡ b → (a && b) ≡ false
          → differ (differ (bit x n) (bit moved n)) (bit (moved * 2 ^ by % 2 ^ 64) n) ≡ bit x (pick a (by + n) (pick b (n - by) n))
      side true true l u e = absurd (true≢false e)
      side true false l u e =
          ap₂ (λ (p q : ℕ). differ (differ (bit x n) p) q) (moved_some n l) (raised_none n h u) ∙ differ_zero _
          ∙ differ_undo (bit x n) (bit x (by + n)) (bit_small x n) (bit_small x (by + n))
      side false true l u e =
          ap₂ (λ (p q : ℕ). differ (differ (bit x n) p) q) (moved_none n l) (raised_some n h u)
          ∙ ap (λ (p : ℕ). differ p (differ (bit x (n - by)) (bit x n))) (differ_zero (bit x n))
          ∙ differ_twice (bit x n) (bit x (n - by)) (bit_small x n) (bit_small x (n - by))
      side false false l u e =
          ap₂ (λ (p q : ℕ). differ (differ (bit x n) p) q) (moved_none n l) (raised_none n h u) ∙ differ_zero _ ∙ differ_zero (bit x n)

  pub swapped_small : x < 2 ^ 64 → swapped mask by x < 2 ^ 64
  unfolding swapped
  swapped_small h =
      let shifted : x / 2 ^ by < 2 ^ 64 = lt_of_le_of_lt (shr_le x by) h in
      xor_lt 64 _ _ (xor_lt 64 _ _ h (lt_of_le_of_lt (and_le_l (bit_xor x (x / 2 ^ by)) mask) (xor_lt 64 x (x / 2 ^ by) h shifted))) (mod-lt _ (pow_pos 64))

-- ---- three swaps turn eight bytes: one test over the 64 places shows where each bit comes from

-- the places below the diagonal of single bits, of squares of pairs and of squares of fours
abbrev singles : ℕ
singles = 0x00aa00aa00aa00aa

abbrev pairs : ℕ
pairs = 0x0000cccc0000cccc

abbrev fours : ℕ
fours = 0x00000000f0f0f0f0

-- bit n is one of 64, and not both of the mask and above a bit of it
abbrev apart : ℕ → ℕ → ℕ → Bool
apart mask by n = not (lower mask n && upper mask by n) && ltb n 64

bit_apart : (mask by x n : ℕ) → apart mask by n ≡ true → bit (swapped mask by x) n ≡ bit x (origin mask by n)
bit_apart mask by x n e =
    let (a, b) = both (not (lower mask n && upper mask by n)) (ltb n 64) e in
    bit-swapped mask by x n (ltb-true n 64 b) (not-true _ a)

-- bit n, taken back through the three swaps, comes from the other side of the diagonal
abbrev across : ℕ → Bool
across n =
    let p : ℕ = origin fours 28 n in
    let q : ℕ = origin pairs 14 p in
    apart fours 28 n && (apart pairs 14 p && (apart singles 7 q && eqb (origin singles 7 q) (n % 8 * 8 + n / 8)))

all_across : every 64 across ≡ true
all_across = refl

pub swapped-turned : (w : ℕ) → w < 2 ^ 64 → swapped fours 28 (swapped pairs 14 (swapped singles 7 w)) ≡ turned w
unfolding turned
swapped-turned w h =
    sym (pack_of 64 (swapped fours 28 two) (swapped_small fours 28 two (swapped_small pairs 14 one (swapped_small singles 7 w h))))
    ∙ pack_ext 64 _ _ (λ n l. source n (every_at 64 across all_across n l))
  where
    one : ℕ
    one = swapped singles 7 w

    two : ℕ
    two = swapped pairs 14 one

    source : (n : ℕ) → across n ≡ true → bit (swapped fours 28 two) n ≡ bit w (n % 8 * 8 + n / 8)
    source n e =
        let p : ℕ = origin fours 28 n in
        let q : ℕ = origin pairs 14 p in
        let (a, f) = both (apart fours 28 n) _ e in
        let (b, g) = both (apart pairs 14 p) _ f in
        let (d, k) = both (apart singles 7 q) _ g in
        bit_apart fours 28 two n a ∙ bit_apart pairs 14 one p b ∙ bit_apart singles 7 w q d ∙ ap (bit w) (eqb-true _ _ k)

-- ---- eight bytes as one number, from the last column's down

-- bit n of the number of the bytes of the columns from e on
abbrev column_bit : ℕ → List ℕ → ℕ → ℕ → ℕ → ℕ
column_bit c eight byte e n = bit (get_or eight ((e + n / 8) * c + byte) 0) (n % 8)

abbrev pub bytes_from : ℕ → List ℕ → ℕ → ℕ → ℕ
bytes_from c eight byte e = pack ((8 - e) * 8) (column_bit c eight byte e)

module _ (c : ℕ) (eight : List ℕ) (byte : ℕ) where
  pub bytes_from_none : bytes_from c eight byte 8 ≡ 0
  unfolding pack
  bytes_from_none = refl

  pub bytes_from_more : (e v : ℕ) → 0 < e → e ≤ 8 → v ≡ get_or eight ((e - 1) * c + byte) 0 → v < 256
      → bytes_from c eight byte (e - 1) ≡ bytes_from c eight byte e * 256 + v
  bytes_from_more e v h g hv small =
      let long : (8 - (e - 1)) * 8 ≡ 8 + (8 - e) * 8 = omega arith in
      ap (λ (n : ℕ). pack n (column_bit c eight byte (e - 1))) long
      ∙ pack-append 8 ((8 - e) * 8) (column_bit c eight byte (e - 1))
      ∙ ap₂ (λ (x y : ℕ). x * 256 + y)
      (pack_ext ((8 - e) * 8) _ _
      (λ n l.
      let column : e - 1 + (8 + n) / 8 ≡ e + n / 8 = omega arith in
      let place : (8 + n) % 8 ≡ n % 8 = omega arith in
      ap₂ (λ (i s : ℕ). bit (get_or eight (i * c + byte) 0) s) column place))
      (pack_ext 8 _ (bit v)
      (λ n l.
      let column : e - 1 + n / 8 ≡ e - 1 = omega arith in
      let place : n % 8 ≡ n = omega arith in
      ap₂ (λ (i s : ℕ). bit (get_or eight (i * c + byte) 0) s) column place ∙ ap (λ (x : ℕ). bit x n) (sym hv))
      ∙ pack_of 8 v small)

  pub bytes_from_end : bytes_from c eight byte 0 ≡ eight_bytes c eight byte
  unfolding eight_bytes
  bytes_from_end = pack_ext 64 _ _ (λ n l. ap (λ (i : ℕ). bit (get_or eight (i * c + byte) 0) (n % 8)) (zero-add (n / 8)))

  pub bytes_from_small : (e : ℕ) → 0 < e → bytes_from c eight byte e < 2 ^ 56
  bytes_from_small e h = lt_of_lt_of_le (pack_small ((8 - e) * 8) _ (λ n. bit_small _ (n % 8))) (pow_mono {j = 56} (omega arith))

  -- the turned number has for byte i what eight columns give to row i of eight
  pub byte_of-turned : (i : ℕ) → i < 8 → byte_of (turned (eight_bytes c eight byte)) i ≡ gathered c eight (byte * 8 + i)
  unfolding turned eight_bytes
  byte_of-turned i h =
      pack_field (i * 8) 8 64 _ (λ n. bit_small _ (n % 8 * 8 + n / 8)) (omega arith)
      ∙ pack_ext 8 _ _
      (λ e l.
      let place : (i * 8 + e) % 8 * 8 + (i * 8 + e) / 8 ≡ e * 8 + i = omega arith in
      let column : (e * 8 + i) / 8 ≡ e = omega arith in
      let low : (e * 8 + i) % 8 ≡ (byte * 8 + i) % 8 = omega arith in
      let high : byte ≡ (byte * 8 + i) / 8 = omega arith in
      ap (bit (pack 64 (λ n. bit (get_or eight (n / 8 * c + byte) 0) (n % 8)))) place
      ∙ pack-bit 64 _ (λ n. bit_small _ (n % 8)) (e * 8 + i) (omega arith)
      ∙ ap₂ (λ (p s : ℕ). bit (get_or eight p 0) s) (ap₂ (λ (a b : ℕ). a * c + b) column high) low)

-- the same of numbers that are these
pub byte_of-word : (c b : ℕ) (eight : List ℕ) {n v w : ℕ} → n ≡ c → v ≡ eight_bytes n eight b → w ≡ turned v → (i : ℕ) → i < 8 → byte_of w i ≡ gathered c eight (b * 8 + i)
byte_of-word c b eight {n} {v} {w} hn hv hw i h =
    ap (λ (x : ℕ). byte_of x i) (hw ∙ ap turned (hv ∙ ap (λ (x : ℕ). eight_bytes x eight b) hn)) ∙ byte_of-turned c eight b i h

-- ---- joined numbers, byte by byte

byte_of-joined : (keep first other i : ℕ) → byte_of (joined_words keep first other) i ≡ bit_xor (byte_of first i) (bit_and (byte_of other i) (byte_of keep i))
byte_of-joined keep first other i =
    ap (λ (x : ℕ). x % 2 ^ 8) (xor_shr first (bit_and other keep) (i * 8) ∙ ap (bit_xor (first / 2 ^ (i * 8))) (and_shr other keep (i * 8)))
    ∙ xor_mod (first / 2 ^ (i * 8)) (bit_and (other / 2 ^ (i * 8)) (keep / 2 ^ (i * 8))) 8
    ∙ ap (bit_xor (byte_of first i)) (and_mod (other / 2 ^ (i * 8)) (keep / 2 ^ (i * 8)) 8)

-- every byte of a byte eight times over is that byte: one test over all of both
abbrev repeats : ℕ → Bool
repeats n = eqb (byte_of (n / 8 * 0x0101010101010101) (n % 8)) (n / 8)

all_repeat : every 2048 repeats ≡ true
all_repeat = refl

byte_of-times : (x i : ℕ) → x < 256 → i < 8 → byte_of (eight_times x) i ≡ x
unfolding eight_times
byte_of-times x i hx hi =
    let high : (x * 8 + i) / 8 ≡ x = omega arith in
    let low : (x * 8 + i) % 8 ≡ i = omega arith in
    ap₂ (λ (y e : ℕ). byte_of (y * 0x0101010101010101) e) (sym high) (sym low)
    ∙ eqb-true _ _ (every_at 2048 repeats all_repeat (x * 8 + i) (omega arith)) ∙ high

-- numbers that are turned and joined have for byte i what both sets give to row i of eight
pub byte_of_both : (c b keep : ℕ) (eight others : List ℕ) {n k w : ℕ} → n ≡ c → keep < 256 → k ≡ eight_times keep
    → w ≡ joined_words k (turned (eight_bytes n eight b)) (turned (eight_bytes n others b)) → (i : ℕ) → i < 8 → byte_of w i ≡ joined c keep eight others (b * 8 + i)
byte_of_both c b keep eight others {n} {k} {w} hn small hk hw i h =
    ap (λ (x : ℕ). byte_of x i) hw ∙ byte_of-joined k _ _ i
    ∙ ap₂ bit_xor (byte_of-word c b eight hn refl refl i h)
    (ap₂ bit_and (byte_of-word c b others hn refl refl i h) (ap (λ (x : ℕ). byte_of x i) hk ∙ byte_of-times keep i small h))
