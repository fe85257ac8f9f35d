-- Each bit of the byte strings of `Transfer` is the one of `Paper`: the types of `specs/Agreement.antt`. By the laws of `Bytewise`, which give each bit with
-- `differ` and `min`; those two are the paper's sum modulo 2 and product. Assumes nothing.
use mathlib.Core.Path.{◌≡◌, refl, sym, ap, ap₂, ◌∙◌}
use mathlib.Core.List.{List, append_assoc}
use mathlib.Core.Bool.{Bool, true, false}
use Prim.Native.Nat.{ℕ, zero, suc, ◌+◌, ◌*◌, ◌/◌, ◌%◌, ◌^◌, ◌<◌, min}
use native.Mathlib.Nat.{add_comm, mod-eq_of_lt, mod-lt, mod-one}
use native.Mathlib.Numerals.{one-add}
use native.Mathlib.Omega.{arith}
use lib.ListN.{length, get_or, take}
use lib.Arith.{digits_div, digits_mod}
use lib.Bits.{bit_xor, bit_and, differ, and_lt, and_block}
use lib.Count.{ones, ones_in, ones_cat}
use lib.Pow.{pow_pos, mod-pow-add}
use Rattle.basics.specs.Choice.{by_bit}
use Rattle.basics.specs.Bytes.{bit, bit_at, line, bit_in, Bytes, be32}
use Rattle.basics.specs.Padding.{col_bytes}
use Rattle.words.specs.Code.{Code, k, parity}
use Rattle.construction.specs.Paper as paper
use Rattle.construction.specs.Paper.{Vector, inner}
use Rattle.construction.specs.Transfer.{pad_of, hashed, message, kept, answer, opened, taking}
use Rattle.construction.specs.Agreement.{bytes_of, selections, strings_in, oracle, HoldsColumns, HoldsSeeds, HoldsTaken, SendsW, KeepsT0, TakesQ, SendsY, RecoversZ, run_y, Runs, PairsRepeat, ChoicesWalsh, PadsCount}
use Rattle.basics.proofs.Bytes.{build_ext, build_is, bit_small, pack_ext, pack_of, bit-xor, length-line}
use Rattle.basics.proofs.Bits.{num, num_of, line_bytes, bit_at-line}
use Rattle.construction.proofs.Bytewise.{length-select, select-bit, length-message, length-kept, kept_bytes, length-expand, expand-bit, length-hashed, hashed-bit, hashed_bytes, message-bit, kept-bit, length-taking, taking-bit, taking_bytes, answer_byte, opened_byte}

-- ---- bits: `differ` is the sum modulo 2, and `min` the product

differ_is : (x y : Bool) → differ (num x) (num y) ≡ (num x + num y) % 2
differ_is false false = refl
differ_is false true = refl
differ_is true false = refl
differ_is true true = refl

differ_sum : (x y : ℕ) → x < 2 → y < 2 → differ x y ≡ (x + y) % 2
differ_sum x y hx hy = rw ((num_of x hx).1, (num_of y hy).1) (differ_is (num_of x hx).0 (num_of y hy).0)

min_is : (x y : Bool) → min (num x) (num y) ≡ num x * num y
min_is false false = refl
min_is false true = refl
min_is true false = refl
min_is true true = refl

min_product : (x y : ℕ) → x < 2 → y < 2 → min x y ≡ x * y
min_product x y hx hy = rw ((num_of x hx).1, (num_of y hy).1) (min_is (num_of x hx).0 (num_of y hy).0)

sums : (u v d : Bool) → differ (differ (num u) (num v)) (num d) ≡ (num u + (num d + num v) % 2) % 2
sums false false false = refl
sums false false true = refl
sums false true false = refl
sums false true true = refl
sums true false false = refl
sums true false true = refl
sums true true false = refl
sums true true true = refl

differ_sums : (u v d : ℕ) → u < 2 → v < 2 → d < 2 → differ (differ u v) d ≡ (u + (d + v) % 2) % 2
differ_sums u v d hu hv hd =
    rw ((num_of u hu).1, (num_of v hv).1, (num_of d hd).1) (sums (num_of u hu).0 (num_of v hv).0 (num_of d hd).0)

-- ---- the two forms

pub holds_columns : (C : Code) (m : ℕ) → HoldsColumns C m
holds_columns C m set e = record { long = e; bits = λ i j hi hj. sym (bit_at-line (col_bytes m) set i j (omega arith)) }

pub holds_seeds : (C : Code) (m : ℕ) → HoldsSeeds C m
holds_seeds C m col seeds = record { long = length-expand C m col seeds; bits = λ i j hi hj. expand-bit C m col seeds i j hi (omega arith) }

-- ---- the operations

module _ (C : Code) (m : ℕ) {Seed : Type 0} (G : Seed → Vector) where
  pub sends_w : SendsW C m G
  sends_w u v us vs sel hu hv i j hi hj =
      message-bit C m us vs sel i j hu.long hi hj
      ∙ differ_sums (bit_in (col_bytes m) us i j) (bit_in (col_bytes m) vs i j) (C.word (get_or sel j 0) i)
      (bit_small _ (j % 8)) (bit_small _ (j % 8)) (C.digit (get_or sel j 0) i)
      ∙ ap₂ (λ (x y : ℕ). (x + (C.word (get_or sel j 0) i + y) % 2) % 2) (hu.bits i j hi hj) (hv.bits i j hi hj)

  pub keeps_t0 : KeepsT0 C m G
  keeps_t0 v vs sel hv j i hj hi =
      kept-bit C m vs sel j i hv.long hj hi
      ∙ differ_sum (bit_in (col_bytes m) vs i j) (C.word (get_or sel j 0) i) (bit_small _ (j % 8)) (C.digit (get_or sel j 0) i)
      ∙ ap (λ (x : ℕ). x % 2) (add_comm (bit_in (col_bytes m) vs i j) (C.word (get_or sel j 0) i))
      ∙ ap (λ (x : ℕ). (C.word (get_or sel j 0) i + x) % 2) (hv.bits i j hi hj)

  pub holds_taken : HoldsTaken C m G
  holds_taken u v s us vs hu hv = record {
    long = length-select C (col_bytes m) s us vs;
    bits = λ i j hi hj. select-bit C (col_bytes m) s us vs i j hi (omega arith)
        ∙ ap₂ (by_bit (bit_at s i)) (hu.bits i j hi hj) (hv.bits i j hi hj) ∙ inside (bit_at s i) (u i) (v i) j;
  }
    where
      inside : (x : ℕ) (y z : Seed) (j : ℕ) → by_bit x (G y j) (G z j) ≡ G (by_bit x y z) j
      inside zero y z j = refl
      inside (suc x) y z j = refl

  pub takes_q : TakesQ C m G
  takes_q A s w t hw ht j i hj hi =
      taking-bit C m s w t j i hw hj hi
      ∙ ap (λ (x : ℕ). by_bit (bit_at s i) x (bit_in (col_bytes m) t i j))
      (differ_sum (bit_in (col_bytes m) w i j) (bit_in (col_bytes m) t i j) (bit_small _ (j % 8)) (bit_small _ (j % 8)))
      ∙ ap (λ (x : ℕ). by_bit (bit_at s i) ((bit_in (col_bytes m) w i j + x) % 2) x) (ht.bits i j hi hj)
      ∙ inside (bit_at s i)
    where
      inside : (x : ℕ) → by_bit x ((bit_in (col_bytes m) w i j + G (A i) j) % 2) (G (A i) j)
          ≡ by_bit x (λ j. (bit_in (col_bytes m) w i j + G (A i) j) % 2) (G (A i)) j
      inside zero = refl
      inside (suc x) = refl

-- a byte string is made of its bits
bytes_of_is : (b : ℕ) (a : Vector) (t : List ℕ) → length t ≡ b → Bytes t → ((i : ℕ) → i < b * 8 → bit_at t i ≡ a i) → bytes_of b a ≡ t
bytes_of_is b a t e h g =
    build_is b _ t e
    (λ p hp.
    pack_ext 8 _ (bit (get_or t p 0))
    (λ x hx. sym (ap₂ (λ (q y : ℕ). bit (get_or t q 0) y) (sym (digits_div p hx)) (sym (digits_mod p hx)) ∙ g (p * 8 + x) (omega arith)))
    ∙ pack_of 8 (get_or t p 0) (h p))

-- a bit of a string xored with a pad is the sum of the two bits
masked_bit : (x p t : ℕ) → bit (bit_xor x p) t ≡ (bit x t + bit p t) % 2
masked_bit x p t = bit-xor x p t ∙ differ_sum (bit x t) (bit p t) (bit_small x t) (bit_small p t)

module _ (C : Code) (pad : ℕ → List ℕ → List ℕ) (m n l : ℕ) where
  pub sends_y : {Seed : Type 0} (G : Seed → Vector) → SendsY C pad m n l G
  sends_y G A s w t xs hw ht j r b hj hr hb =
      ap (λ (x : ℕ). bit x (b % 8)) (answer_byte C pad m n l s w t xs j r (b / 8) hj hr (omega arith))
      ∙ masked_bit (get_or xs ((j * n + r) * l + b / 8) 0) (get_or (pad j (hashed C s rows_q j r)) (b / 8) 0) (b % 8)
      ∙ ap (λ (row : List ℕ). (bit_in l xs (j * n + r) b + bit_at (pad j row) b) % 2)
      (sym
      (bytes_of_is C.width _ (hashed C s rows_q j r) (length-hashed C m s rows_q j r hj lq) (hashed_bytes C m s rows_q j r hj lq (taking_bytes C m s w t))
      (λ i hi.
      hashed-bit C m s rows_q j r hj lq i hi
      ∙ differ_sum (bit_in C.width rows_q j i) (min (C.word r i) (bit_at s i)) (bit_small _ (i % 8)) (let g = C.digit r i in omega arith)
      ∙ ap₂ (λ (x y : ℕ). (x + y) % 2) (takes_q C m G A s w t hw ht j i hj hi)
      (min_product (C.word r i) (bit_at s i) (C.digit r i) (bit_small _ (i % 8))))))
    where
      rows_q : List ℕ
      rows_q = taking C m s w t

      lq : length rows_q ≡ m * C.width
      lq = length-taking C m s w t

  pub recovers_z : RecoversZ C pad m n l
  recovers_z sel t ys ht hb j b hj hl =
      ap (λ (x : ℕ). bit x (b % 8)) (opened_byte C pad m n l sel t ys j (b / 8) hj (omega arith))
      ∙ masked_bit (get_or ys ((j * n + get_or sel j 0) * l + b / 8) 0) (get_or (pad j (line C.width t j)) (b / 8) 0) (b % 8)
      ∙ ap (λ (row : List ℕ). (bit_in l ys (j * n + get_or sel j 0) b + bit_at (pad j row) b) % 2)
      (sym
      (bytes_of_is C.width _ (line C.width t j) (length-line C.width t j m hj ht) (line_bytes C.width t j hb)
      (λ i hi. bit_at-line C.width t j i hi)))

  -- two rows that agree in their k bits are the same bytes, and so have the same pad
  same_bytes : (a b : Vector) → ((i : ℕ) → i < k C → a i ≡ b i) → bytes_of C.width a ≡ bytes_of C.width b
  same_bytes a b h = build_ext C.width _ _ (λ p hp. pack_ext 8 _ _ (λ e he. h (p * 8 + e) (omega arith)))

  -- q^i has at row j what w_i has there
  sent_same : (x : ℕ) (w₁ w₂ g : Vector) (j : ℕ) → w₁ j ≡ w₂ j → by_bit x (λ j. (w₁ j + g j) % 2) g j ≡ by_bit x (λ j. (w₂ j + g j) % 2) g j
  sent_same zero w₁ w₂ g j e = ap (λ (y : ℕ). (y + g j) % 2) e
  sent_same (suc x) w₁ w₂ g j e = refl

  pub runs : {Seed : Type 0} (G : Seed → Vector) → Runs C pad m n l G
  runs {Seed} G u v s us vs t sel xs hu hv ht hs = record { masked = masked; recovered = recovered }
    where
      lw : length (message C m us vs sel) ≡ k C * col_bytes m
      lw = length-message C m us vs sel ∙ hu.long

      sent : (j i : ℕ) → j < m → i < k C
          → paper.q G (bit_at s) (bit_in (col_bytes m) (message C m us vs sel)) (paper.a (bit_at s) u v) j i
          ≡ paper.q G (bit_at s) (paper.w C.word G (selections sel) u v) (paper.a (bit_at s) u v) j i
      sent j i hj hi =
          sent_same (bit_at s i) (bit_in (col_bytes m) (message C m us vs sel) i) (paper.w C.word G (selections sel) u v i) (G (paper.a (bit_at s) u v i)) j
          (sends_w C m G u v us vs sel hu hv i j hi hj)

      masked : (j r b : ℕ) → j < m → r < n → b < l * 8
          → strings_in n l (answer C pad m n l s (message C m us vs sel) t xs) j r b ≡ run_y C pad m n l G u v s sel xs j r b
      masked j r b hj hr hb =
          sends_y G (paper.a (bit_at s) u v) s (message C m us vs sel) t xs lw ht j r b hj hr hb
          ∙ ap (λ (row : List ℕ). (bit_in l xs (j * n + r) b + bit_at (pad j row) b) % 2)
          (same_bytes _ _ (λ i hi. ap (λ (x : ℕ). (x + C.word r i * bit_at s i) % 2) (sent j i hj hi)))

      recovered : (j b : ℕ) → j < m → b < l * 8
          → bit_in l (opened C pad m n l sel (kept C m vs sel) (answer C pad m n l s (message C m us vs sel) t xs)) j b
          ≡ paper.z (oracle C pad) (selections sel) (paper.T0 C.word G (selections sel) v) (run_y C pad m n l G u v s sel xs) j b
      recovered j b hj hb =
          recovers_z sel (kept C m vs sel) (answer C pad m n l s (message C m us vs sel) t xs) (length-kept C m vs sel) (kept_bytes C m vs sel) j b hj hb
          ∙ ap₂ (λ (x : ℕ) (row : List ℕ). (x + bit_at (pad j row) b) % 2) (masked j (get_or sel j 0) b hj (hs.small j hj) hb)
          (same_bytes _ _ (λ i hi. keeps_t0 C m G v vs sel hv j i hj hi))

-- ---- the two codes

pub pairs_repeat : PairsRepeat
pairs_repeat r i h = omega arith

ones_product : (x y : Bool) → ones (bit_and (num x) (num y)) ≡ num x * num y
unfolding ones ones_in
ones_product false false = refl
ones_product false true = refl
ones_product true false = refl
ones_product true true = refl

-- the inner product counts the ones of (α AND x), one bit after the other
inner_ones : (q α x : ℕ) → ones (bit_and (α % 2 ^ q) (x % 2 ^ q)) ≡ inner q α x
unfolding inner
inner_ones zero α x = ap₂ (λ (y z : ℕ). ones (bit_and y z)) (mod-one α) (mod-one x) ∙ none
  where
    none : ones (bit_and 0 0) ≡ 0
    none = ones_product false false
inner_ones (suc q) α x =
    ap₂ (λ (y z : ℕ). ones (bit_and y z)) (mod-suc α) (mod-suc x)
    ∙ ap ones (and_block q (bit α q) (bit x q) (α % 2 ^ q) (x % 2 ^ q) (mod-lt α (pow_pos q)) (mod-lt x (pow_pos q)))
    ∙ ones_cat q (bit_and (bit α q) (bit x q)) (bit_and (α % 2 ^ q) (x % 2 ^ q)) (and_lt q _ _ (mod-lt α (pow_pos q)) (mod-lt x (pow_pos q)))
    ∙ ap₂ ◌+◌ (product (bit α q) (bit x q) (bit_small α q) (bit_small x q)) (inner_ones q α x)
    ∙ add_comm (bit α q * bit x q) (inner q α x)
  where
    mod-suc : (y : ℕ) → y % 2 ^ suc q ≡ bit y q * 2 ^ q + y % 2 ^ q
    mod-suc y = ap (λ (e : ℕ). y % 2 ^ e) (sym (one-add q)) ∙ mod-pow-add y 1 q

    product : (y z : ℕ) → y < 2 → z < 2 → ones (bit_and y z) ≡ y * z
    product y z hy hz = rw ((num_of y hy).1, (num_of z hz).1) (ones_product (num_of y hy).0 (num_of z hz).0)

pub choices_walsh : ChoicesWalsh
unfolding parity
choices_walsh r x hr hx =
    ap (λ (y : ℕ). y % 2) (sym (ap₂ (λ (y z : ℕ). ones (bit_and y z)) (mod-eq_of_lt hr) (mod-eq_of_lt hx)) ∙ inner_ones 8 r x)

-- ---- the pad

pub pads_count : (hash : List ℕ → List ℕ) (session row : List ℕ) (l : ℕ) → PadsCount hash session row l
unfolding pad_of
pads_count hash session row l = record {
  first = ap (λ (t : List ℕ). take l (hash t)) (append_assoc session (be32 0) row);
  later = ap (λ (t : List ℕ). take l (hash t)) (append_assoc session (be32 258) row);
}
