-- Document 003, Appendix A, Construction 2, step by step in its own letters, over any code and any two oracles; sections 3.2 and 3.3 for its two codes.
-- Rows j and columns i count from 0, as document 01 says; the source counts them from 1. A vector of bits is a function of the place and a matrix one of
-- row and column, so bits past the source's lengths k, m and ℓ mean nothing. What the source draws at random, s, u and v, is given.
use Rattle.std.specs.Prelude.{ℕ, zero, suc, ◌+◌, ◌*◌, ◌%◌}
use Rattle.basics.specs.Choice.{by_bit}
use Rattle.basics.specs.Bytes.{bit}

infixl 65 ◌⊕◌
infixl 70 ◌⊙◌
abbrev pub Vector : Type 0
Vector = ℕ → ℕ

abbrev pub Matrix : Type 0
Matrix = ℕ → Vector

-- ---- section 3.1: row j and column i of a matrix, and the two operations on vectors

abbrev pub row : Matrix → ℕ → Vector
row M j = λ i. M j i

abbrev pub column : Matrix → ℕ → Vector
column M i = λ j. M j i

abbrev pub ◌⊕◌ : Vector → Vector → Vector
a ⊕ b = λ i. (a i + b i) % 2

abbrev pub ◌⊙◌ : Vector → Vector → Vector
a ⊙ b = λ i. a i * b i

-- ---- Construction 2. `c r` is word r of the code. The oracle G gives m bits for a seed, and H gives ℓ bits for a row's number and k bits

-- step 2: D has the rows d_j = c_(r_j)
abbrev pub D : (ℕ → Vector) → (ℕ → ℕ) → Matrix
D c r = λ j. c (r j)

-- T1 has the columns t_1^i = G(v_i)
abbrev pub T1 : {Seed : Type 0} → (Seed → Vector) → (ℕ → Seed) → Matrix
T1 G v = λ j i. G (v i) j

-- T0 has the columns t_0^i = d^i ⊕ t_1^i
abbrev pub T0 : {Seed : Type 0} → (ℕ → Vector) → (Seed → Vector) → (ℕ → ℕ) → (ℕ → Seed) → Matrix
T0 c G r v = λ j i. (column (D c r) i ⊕ column (T1 G v) i) j

-- step 3: S acts as receiver with input s_i, R as sender with inputs u_i and v_i, and S receives a^i
abbrev pub a : {Seed : Type 0} → Vector → (ℕ → Seed) → (ℕ → Seed) → ℕ → Seed
a s u v = λ i. by_bit (s i) (u i) (v i)

-- step 4: R sends w_i = G(u_i) ⊕ t_0^i
abbrev pub w : {Seed : Type 0} → (ℕ → Vector) → (Seed → Vector) → (ℕ → ℕ) → (ℕ → Seed) → (ℕ → Seed) → ℕ → Vector
w c G r u v = λ i. G (u i) ⊕ column (T0 c G r v) i

-- step 5, from the w_i that were sent and the a^i that were received: if s_i = 0 then q^i = w_i ⊕ G(a^i), else if s_i = 1 then q^i = G(a^i)
abbrev pub q : {Seed : Type 0} → (Seed → Vector) → Vector → (ℕ → Vector) → (ℕ → Seed) → Matrix
q G s W A = λ j i. by_bit (s i) (W i ⊕ G (A i)) (G (A i)) j

-- step 6: S sends y_(j,r) = x_(j,r) ⊕ H(j, q_j ⊕ (c_r ⊙ s))
abbrev pub y : (ℕ → Vector) → (ℕ → Vector → Vector) → Vector → Matrix → (ℕ → ℕ → Vector) → ℕ → ℕ → Vector
y c H s Q x = λ j r. x j r ⊕ H j (row Q j ⊕ (c r ⊙ s))

-- step 7, from the y_(j,r) that were sent: R recovers z_j = y_(j,r_j) ⊕ H(j, t_(j,0))
abbrev pub z : (ℕ → Vector → Vector) → (ℕ → ℕ) → Matrix → (ℕ → ℕ → Vector) → ℕ → Vector
z H r T Y = λ j. Y j (r j) ⊕ H j (row T j)

-- ---- the two codes

-- section 3.2: the word of a bit r is r at every place
abbrev pub repetition : ℕ → Vector
repetition r = λ i. r

-- section 3.3: the inner product of two strings of q bits, and WH(α), which has it modulo 2 at place x
unfoldable pub inner : ℕ → ℕ → ℕ → ℕ
inner zero α x = 0
inner (suc q) α x = inner q α x + bit α q * bit x q

abbrev pub WH : ℕ → ℕ → Vector
WH q α = λ x. inner q α x % 2
