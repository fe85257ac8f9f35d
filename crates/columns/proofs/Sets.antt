-- Laws of lent sets: the keystream in its workspace, and the loop that adds one column after the other. Assumes nothing.
use mathlib.Core.Path.{◌≡◌, refl, sym, ap, ap₂, ◌∙◌, subst}
use mathlib.Core.Bool.{Bool, true, false}
use mathlib.Core.List.{List, [], ◌++◌}
use Prim.Native.Nat.{ℕ, zero, suc, ◌+◌, ◌-◌, ◌*◌, ◌/◌, ◌%◌, ◌^◌, ◌≤◌, ◌<◌}
use native.Mathlib.Decide.{ℕ_discrete}
use native.Mathlib.Omega.{arith}
use lib.ListN.{length, get_or, take, drop, set, length-append, length-take, length-drop}
use lib.Seq.{drop-drop, take-append-le, get_or-take, get_or-drop, get_or-set_same, get_or-set_other}
use lib.Dec.{eqb}
use lib.Bits.{bit_xor}
use lib.Arith.{digits_lt, digits_div, digits_mod}
use borrow.Author.Tests.{eq-eqb, le-leb, eqb-true, leb-true}
use borrow.Rule.Slice.PartMut.{put_mid}
use Rattle.std.specs.Simd.{first_chunks}
use Rattle.basics.specs.declared.Verdict.{Verdict}
use Rattle.basics.specs.Bytes.{build, bit, line, ◌⊕◌, Bytes}
use Rattle.basics.specs.Padding.{col_bytes, padded, Clear}
use Rattle.basics.specs.Verdicts.{pass, unless, at_first, Gives}
use Rattle.basics.proofs.Choice.{both}
use Rattle.basics.proofs.Bytes.{length-build, get_or-build, build_ext, append_bytes}
use Rattle.basics.proofs.Fill.{Filled, filled_rest, put_next}
use Rattle.basics.proofs.Padding.{clear_padded}
use Rattle.basics.proofs.Verdicts.{gives_passed, at_first_none}
use Rattle.construction.specs.Transfer.{cleared, column_of}
use Rattle.construction.proofs.Bytewise.{cleared_last, cleared_whole, column_of_clear}
use Rattle.symmetric.specs.ChaCha.{chacha20}
use Rattle.symmetric.specs.Calls.{block_verdict}
use Rattle.symmetric.proofs.Facts.{length-chacha20, chacha20_bytes}
use Rattle.columns.specs.Sets.{seed_column, expanded, columns_of, entry_bytes, set_fit}

-- ---- the cipher's block, called with lengths that it takes

block_passes : (key nonce out : ℕ) → key ≡ 32 → nonce ≡ 12 → out ≡ 64 → block_verdict key nonce out ≡ pass
unfolding block_verdict unless
block_passes key nonce out a b c = simp (eq-eqb key 32 a, eq-eqb nonce 12 b, eq-eqb out 64 c)

pub block-given : (key nonce out : List ℕ) (counter : ℕ) {now : List ℕ} {r : Verdict} → Gives (block_verdict (length key) (length nonce) (length out)) (chacha20 key nonce counter) out r now
    → length key ≡ 32 → length nonce ≡ 12 → length out ≡ 64 → now ≡ chacha20 key nonce counter
block-given key nonce out counter g a b c =
    gives_passed g (ap (λ (v : Verdict). v.code) (g.verdict ∙ block_passes (length key) (length nonce) (length out) a b c))

-- ---- two blocks in a workspace of 128 bytes, read to c bytes

module _ (key nonce : List ℕ) (c : ℕ) where
  abbrev pub stream : List ℕ
  stream = chacha20 key nonce 0 ++ chacha20 key nonce 1

  pub one_block : (rest : List ℕ) {first : List ℕ} → c ≤ 64 → first ≡ chacha20 key nonce 0 → take c (first ++ rest) ≡ take c stream
  one_block rest {first} h e =
      ap (λ (s : List ℕ). take c (s ++ rest)) e ∙ take-append-le c (chacha20 key nonce 0) rest (omega (arith, length-chacha20 key nonce 0))
      ∙ sym (take-append-le c (chacha20 key nonce 0) (chacha20 key nonce 1) (omega (arith, length-chacha20 key nonce 0)))

  pub two_blocks : (rest : List ℕ) {first second : List ℕ} → c ≤ 128 → first ≡ chacha20 key nonce 0 → second ≡ chacha20 key nonce 1
      → take c (put_mid 64 64 (first ++ rest) second) ≡ take c stream
  two_blocks rest {first} {second} h e f =
      ap (take c) (ap₂ (λ (s t : List ℕ). put_mid 64 64 (s ++ rest) t) e f ∙ put_next 64 64 (chacha20 key nonce 0) rest (chacha20 key nonce 1) (length-chacha20 key nonce 0))
      ∙ take-append-le c stream (drop 64 rest)
      (omega (arith, length-append (chacha20 key nonce 0) (chacha20 key nonce 1), length-chacha20 key nonce 0, length-chacha20 key nonce 1))

stream_bytes : (key nonce : List ℕ) (c : ℕ) → Bytes (stream key nonce c)
stream_bytes key nonce c = append_bytes (chacha20 key nonce 0) (chacha20 key nonce 1) (chacha20_bytes key nonce 0) (chacha20_bytes key nonce 1)

-- ---- the column of a seed, in a workspace whose last byte in use lost its padding

pub column-at : (m v : ℕ) (key nonce work : List ℕ) → 0 < m → m ≤ 1024 → length work ≡ 128 → take (col_bytes m) work ≡ take (col_bytes m) (stream key nonce (col_bytes m))
    → v ≡ get_or work (col_bytes m - 1) 0 % 2 ^ (m - (col_bytes m - 1) * 8)
    → (p : ℕ) → p < col_bytes m → get_or (set work (col_bytes m - 1) v) p 0 ≡ get_or (seed_column nonce m key) p 0
unfolding column_of
column-at m v key nonce work h0 h1 hw hs hv p hp = side (ℕ_discrete p (col_bytes m - 1))
  where
    s : List ℕ
    s = stream key nonce (col_bytes m)

    read : (q : ℕ) → q < col_bytes m → get_or work q 0 ≡ get_or s q 0
    read q h = sym (get_or-take (col_bytes m) work q 0 h) ∙ ap (λ (t : List ℕ). get_or t q 0) hs ∙ get_or-take (col_bytes m) s q 0 h

    side : Dec (p ≡ col_bytes m - 1) → get_or (set work (col_bytes m - 1) v) p 0 ≡ get_or (cleared m s) p 0
    side (yes e) =
        ap (λ (q : ℕ). get_or (set work (col_bytes m - 1) v) q 0) e ∙ get_or-set_same work (col_bytes m - 1) v 0 (omega arith)
        ∙ hv ∙ ap (λ (q : ℕ). get_or work q 0 % 2 ^ (m - q * 8)) (sym e) ∙ ap (λ (x : ℕ). x % 2 ^ (m - p * 8)) (read p hp)
        ∙ sym (cleared_last m s p hp (omega arith))
    side (no n) =
        get_or-set_other work (col_bytes m - 1) p v 0 n ∙ read p hp ∙ sym (cleared_whole m s p (omega arith) (stream_bytes key nonce (col_bytes m) p))

-- the same in the code's own c
pub column_in : (m c v : ℕ) (key nonce work : List ℕ) → 0 < m → m ≤ 1024 → c ≡ col_bytes m → length work ≡ 128 → take c work ≡ take c (stream key nonce c)
    → v ≡ get_or work (c - 1) 0 % 2 ^ (m - (c - 1) * 8) → (p : ℕ) → p < c → get_or (set work (c - 1) v) p 0 ≡ get_or (seed_column nonce m key) p 0
column_in m c v key nonce work h0 h1 hc =
    subst
    (λ (n : ℕ). length work ≡ 128 → take n work ≡ take n (stream key nonce n) → v ≡ get_or work (n - 1) 0 % 2 ^ (m - (n - 1) * 8)
    → (p : ℕ) → p < n → get_or (set work (n - 1) v) p 0 ≡ get_or (seed_column nonce m key) p 0)
    (sym hc) (column-at m v key nonce work h0 h1)

-- ---- one column after the other

-- byte p of the block with the columns of all seeds in it
abbrev pub added : ℕ → List ℕ → List ℕ → List ℕ → ℕ → ℕ
added m session seeds old p = bit_xor (get_or old p 0) (get_or (seed_column session m (line 32 seeds (p / col_bytes m))) (p % col_bytes m) 0)

-- seed i of a set that is read as seeds
pub seed-at : (k i : ℕ) (set : List ℕ) → i < k → get_or (first_chunks 32 k set) i [] ≡ line 32 set i
seed-at zero i set h = absurd (omega arith)
seed-at (suc k) zero set h = refl
seed-at (suc k) (suc i) set h =
    let next : 32 + i * 32 ≡ suc i * 32 = omega arith in
    seed-at k i (drop 32 set) (omega arith) ∙ ap (take 32) (drop-drop (i * 32) 32 set ∙ ap (λ (x : ℕ). drop x set) next)

-- the part of column i, lent from the block as it is now, with its column in it
pub added_part : (m i a e : ℕ) (session seeds : List ℕ) {old now seed : List ℕ} → Filled (added m session seeds old) a old now
    → a ≡ i * col_bytes m → e ≡ a + col_bytes m → e ≤ length old → seed ≡ line 32 seeds i
    → take (e - a) (drop a now) ⊕ seed_column session m seed ≡ build (col_bytes m) (λ p. added m session seeds old (a + p))
unfolding ◌⊕◌
added_part m i a e session seeds {old} {now} {seed} z ha he h hs =
    ap (λ (n : ℕ). build n (λ p. bit_xor (get_or (take (e - a) (drop a now)) p 0) (get_or (seed_column session m seed) p 0))) long
    ∙ build_ext c _ _
    (λ p l.
    ap₂ bit_xor (get_or-take (e - a) (drop a now) p 0 (omega arith) ∙ get_or-drop a now p 0 ∙ filled_rest z p)
    (ap₂ (λ (t : List ℕ) (x : ℕ). get_or (seed_column session m t) x 0)
    (hs ∙ ap (line 32 seeds) (sym (ap (λ (x : ℕ). (x + p) / c) ha ∙ digits_div i l))) (sym (ap (λ (x : ℕ). (x + p) % c) ha ∙ digits_mod i l))))
  where
    c : ℕ
    c = col_bytes m

    long : length (take (e - a) (drop a now)) ≡ c
    long = simp (length-take, length-drop) (omega (arith, z.long))

pub added_all : (count m : ℕ) (session seeds old : List ℕ) → length old ≡ count * col_bytes m
    → build (count * col_bytes m) (added m session seeds old) ≡ old ⊕ expanded count m session seeds
unfolding ◌⊕◌ expanded
added_all count m session seeds old h =
    build_ext (count * col_bytes m) _ _ (λ p l. ap (bit_xor (get_or old p 0)) (sym (get_or-build (count * col_bytes m) _ p l)))
    ∙ ap (λ (n : ℕ). build n (λ p. bit_xor (get_or old p 0) (get_or (expanded count m session seeds) p 0))) (sym h)

-- ---- the columns that a set stands for: their length, and that expanded ones have no padding

length-expanded : (count m : ℕ) (session seeds : List ℕ) → length (expanded count m session seeds) ≡ count * col_bytes m
unfolding expanded
length-expanded count m session seeds = length-build (count * col_bytes m) _

pub length-columns_of : (seeded : Bool) (count m : ℕ) (session set : List ℕ) → length set ≡ count * entry_bytes seeded m → length (columns_of seeded count m session set) ≡ count * col_bytes m
length-columns_of true count m session set h = length-expanded count m session set
length-columns_of false count m session set h = h

expanded_clear : (count m : ℕ) (session seeds : List ℕ) (i : ℕ) → i < count → Clear m (expanded count m session seeds) i
unfolding expanded
expanded_clear count m session seeds i hi j hm hj =
    let hb : j / 8 < col_bytes m = omega arith in
    ap (λ (x : ℕ). bit x (j % 8))
    (get_or-build (count * col_bytes m) _ (i * col_bytes m + j / 8) (digits_lt hi hb)
    ∙ ap₂ (λ (x y : ℕ). get_or (seed_column session m (line 32 seeds x)) y 0) (digits_div i hb) (digits_mod i hb))
    ∙ column_of_clear chacha20 session m (line 32 seeds i) j hm hj

-- as handed-in columns they get no refusal 9
pub expanded_passes : (count m base : ℕ) (session seeds : List ℕ) → at_first count (padded m (expanded count m session seeds)) 9 base ≡ pass
expanded_passes count m base session seeds =
    at_first_none count (padded m (expanded count m session seeds)) 9 base
    (λ i h. clear_padded m (expanded count m session seeds) i (expanded_clear count m session seeds i h))

-- their length is that of handed-in columns where the seeds' was that of seeds
pub expanded_fits : (count m : ℕ) (session seeds : List ℕ) → length seeds ≡ count * 32 → eqb (length seeds) (count * 32) ≡ eqb (length (expanded count m session seeds)) (count * col_bytes m)
expanded_fits count m session seeds h = eq-eqb _ _ h ∙ sym (eq-eqb _ _ (length-expanded count m session seeds))

-- ---- what the guard says

pub record SetFit (seeded : Bool) (count m session set block : ℕ) : Type 0 where
  pub some : 1 ≤ m
  pub few : m ≤ 1024
  pub session_long : session ≡ 12
  pub set_long : set ≡ count * entry_bytes seeded m
  pub block_long : block ≡ count * col_bytes m

pub set_fit_passed : (seeded : Bool) (count m session set block : ℕ) → set_fit seeded count m session set block ≡ true → SetFit seeded count m session set block
set_fit_passed seeded count m session set block e =
    let (a, b) = both _ _ e in
    let (d, f) = both _ _ b in
    let (g, h) = both _ _ f in
    let (i, j) = both _ _ h in
    record { some = leb-true _ _ a; few = leb-true _ _ d; session_long = eqb-true _ _ g; set_long = eqb-true _ _ i; block_long = eqb-true _ _ j }

pub set_fit_holds : (seeded : Bool) (count m session set block : ℕ) → SetFit seeded count m session set block → set_fit seeded count m session set block ≡ true
set_fit_holds seeded count m session set block f =
    simp (
      le-leb 1 m f.some,
      le-leb m 1024 f.few,
      eq-eqb session 12 f.session_long,
      eq-eqb set (count * entry_bytes seeded m) f.set_long,
      eq-eqb block (count * col_bytes m) f.block_long,
    )
