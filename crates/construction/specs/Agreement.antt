-- Each bit of the byte strings of `Transfer` is the one of `Paper`, for any code: what `proofs/Agreement.antt` proves. The statements take each message
-- as it was received, so they hold of one that was not made by the rules too.
use Rattle.std.specs.Prelude.{◌≡◌, List, ◌∷◌, ◌++◌, ℕ, ◌+◌, ◌*◌, ◌<◌, length, get_or, take}
use Rattle.basics.specs.Bytes.{build, pack, bit_at, line, bit_in, Bytes}
use Rattle.basics.specs.Padding.{col_bytes}
use Rattle.words.specs.Code.{Code, k, pairs, choices}
use Rattle.construction.specs.Paper as paper
use Rattle.construction.specs.Paper.{Vector}
use Rattle.construction.specs.Transfer.{Selections, pad_of, select, expand, message, kept, taking, answer, opened}

-- ---- how the paper's values stand in byte strings. The w_i and the rows of a matrix are lines: line i has the bits `bit_in b s i`

-- a vector's bits in b bytes
abbrev pub bytes_of : ℕ → Vector → List ℕ
bytes_of b a = build b (λ p. pack 8 (λ e. a (p * 8 + e)))

-- the selections r_j
abbrev pub selections : List ℕ → ℕ → ℕ
selections sel = λ j. get_or sel j 0

-- the strings x_(j,r) or y_(j,r) of l bytes, n to a row
abbrev pub strings_in : ℕ → ℕ → List ℕ → ℕ → ℕ → Vector
strings_in n l xs = λ j r. bit_in l xs (j * n + r)

-- the oracle H that a pad is: it is given the row's bytes, and its bits are H's
abbrev pub oracle : Code → (ℕ → List ℕ → List ℕ) → ℕ → Vector → Vector
oracle C pad = λ j a. bit_at (pad j (bytes_of C.width a))

-- a set of columns with the bits of G(x_i) in column i
pub record Holds (C : Code) (m : ℕ) {Seed : Type 0} (G : Seed → Vector) (x : ℕ → Seed) (set : List ℕ) : Type 0 where
  pub long : length set ≡ k C * col_bytes m
  pub bits : (i j : ℕ) → i < k C → j < m → bit_in (col_bytes m) set i j ≡ G (x i) j

-- ---- the two forms: from columns, G gives a column's own bits; from seeds, those of the seed's column

abbrev pub HoldsColumns : Code → ℕ → Type 0
HoldsColumns C m = (set : List ℕ) → length set ≡ k C * col_bytes m → Holds C m bit_at (line (col_bytes m) set) set

abbrev pub HoldsSeeds : Code → ℕ → Type 0
HoldsSeeds C m = (col : List ℕ → List ℕ) (seeds : List ℕ) → Holds C m (λ seed. bit_at (col seed)) (line 32 seeds) (expand C m col seeds)

-- ---- the operations, over any code and any oracle G

module _ (C : Code) (m : ℕ) {Seed : Type 0} (G : Seed → Vector) where
  -- step 4: column i of the message is w_i
  abbrev pub SendsW : Type 0
  SendsW =
      (u v : ℕ → Seed) (us vs sel : List ℕ) → Holds C m G u us → Holds C m G v vs
      → (i j : ℕ) → i < k C → j < m
      → bit_in (col_bytes m) (message C m us vs sel) i j ≡ paper.w C.word G (selections sel) u v i j

  -- step 2: kept row j is t_(j,0)
  abbrev pub KeepsT0 : Type 0
  KeepsT0 =
      (v : ℕ → Seed) (vs sel : List ℕ) → Holds C m G v vs
      → (j i : ℕ) → j < m → i < k C
      → bit_in C.width (kept C m vs sel) j i ≡ paper.T0 C.word G (selections sel) v j i

  -- step 3: what the secret selects of the buyer's two sets are the columns of the a^i
  abbrev pub HoldsTaken : Type 0
  HoldsTaken =
      (u v : ℕ → Seed) (secret us vs : List ℕ) → Holds C m G u us → Holds C m G v vs
      → Holds C m G (paper.a (bit_at secret) u v) (select C (col_bytes m) secret us vs)

  -- step 5: row j of what is taken is q_j
  abbrev pub TakesQ : Type 0
  TakesQ =
      (A : ℕ → Seed) (secret block taken : List ℕ) → length block ≡ k C * col_bytes m → Holds C m G A taken
      → (j i : ℕ) → j < m → i < k C
      → bit_in C.width (taking C m secret block taken) j i ≡ paper.q G (bit_at secret) (bit_in (col_bytes m) block) A j i

-- and any pad, which is the oracle H
module _ (C : Code) (pad : ℕ → List ℕ → List ℕ) (m n l : ℕ) where
  -- step 6: the masked string at row j and place r is y_(j,r)
  abbrev pub SendsY : {Seed : Type 0} → (Seed → Vector) → Type 0
  SendsY {Seed} G =
      (A : ℕ → Seed) (secret block taken xs : List ℕ) → length block ≡ k C * col_bytes m → Holds C m G A taken
      → (j r t : ℕ) → j < m → r < n → t < l * 8
      → strings_in n l (answer C pad m n l secret block taken xs) j r t
      ≡ paper.y C.word (oracle C pad) (bit_at secret) (paper.q G (bit_at secret) (bit_in (col_bytes m) block) A) (strings_in n l xs) j r t

  -- step 7: row j opens to z_j
  abbrev pub RecoversZ : Type 0
  RecoversZ =
      (sel rows ys : List ℕ) → length rows ≡ m * C.width → Bytes rows
      → (j t : ℕ) → j < m → t < l * 8
      → bit_in l (opened C pad m n l sel rows ys) j t
      ≡ paper.z (oracle C pad) (selections sel) (bit_in C.width rows) (strings_in n l ys) j t

  -- the y_(j,r) of steps 1 to 6 in one
  abbrev pub run_y : {Seed : Type 0} → (Seed → Vector) → (ℕ → Seed) → (ℕ → Seed) → List ℕ → List ℕ → List ℕ → ℕ → ℕ → Vector
  run_y G u v secret sel xs =
      paper.y C.word (oracle C pad) (bit_at secret)
      (paper.q G (bit_at secret) (paper.w C.word G (selections sel) u v) (paper.a (bit_at secret) u v)) (strings_in n l xs)

  -- the whole run, both parties by the rules: what the supplier sends in step 6 and what the buyer recovers in step 7
  pub record Run {Seed : Type 0} (G : Seed → Vector) (u v : ℕ → Seed) (secret us vs taken sel xs : List ℕ) : Type 0 where
    pub masked : (j r t : ℕ) → j < m → r < n → t < l * 8
        → strings_in n l (answer C pad m n l secret (message C m us vs sel) taken xs) j r t
        ≡ run_y G u v secret sel xs j r t
    pub recovered : (j t : ℕ) → j < m → t < l * 8
        → bit_in l (opened C pad m n l sel (kept C m vs sel) (answer C pad m n l secret (message C m us vs sel) taken xs)) j t
        ≡ paper.z (oracle C pad) (selections sel) (paper.T0 C.word G (selections sel) v) (run_y G u v secret sel xs) j t

  abbrev pub Runs : {Seed : Type 0} → (Seed → Vector) → Type 0
  Runs {Seed} G =
      (u v : ℕ → Seed) (secret us vs taken sel xs : List ℕ) → Holds C m G u us → Holds C m G v vs → Holds C m G (paper.a (bit_at secret) u v) taken
      → Selections m n sel → Run G u v secret us vs taken sel xs

-- ---- the two codes

abbrev pub PairsRepeat : Type 0
PairsRepeat = (r i : ℕ) → r < 2 → pairs.word r i ≡ paper.repetition r i

abbrev pub ChoicesWalsh : Type 0
ChoicesWalsh = (r x : ℕ) → r < 256 → x < 256 → choices.word r x ≡ paper.WH 8 r x

-- ---- the pad: document 01 counts rows from 0, where the source counts from 1, and writes the number as four bytes big-endian

pub record PadsCount (hash : List ℕ → List ℕ) (session row : List ℕ) (l : ℕ) : Type 0 where
  pub first : pad_of hash session l 0 row ≡ take l (hash (session ++ (0 ∷ 0 ∷ 0 ∷ 0 ∷ row)))
  pub later : pad_of hash session l 258 row ≡ take l (hash (session ++ (0 ∷ 0 ∷ 1 ∷ 2 ∷ row)))
