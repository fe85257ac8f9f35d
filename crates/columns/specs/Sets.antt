-- The columns of a set that is lent: handed in as they are, or as seeds. Document 01, section 4: the keystream is ChaCha20.
use Rattle.std.specs.Prelude.{Bool, ◌&&◌, List, ℕ, ◌*◌, ◌/◌, ◌%◌, eqb, leb, get_or}
use Rattle.basics.specs.Choice.{pick}
use Rattle.basics.specs.Bytes.{build, line}
use Rattle.basics.specs.Padding.{col_bytes}
use Rattle.construction.specs.Transfer.{column_of}
use Rattle.symmetric.specs.ChaCha.{chacha20}

-- the column of m rows of a seed
abbrev pub seed_column : List ℕ → ℕ → List ℕ → List ℕ
seed_column session m seed = column_of chacha20 session m seed

-- the columns of `count` seeds of 32 bytes
unfoldable pub expanded : ℕ → ℕ → List ℕ → List ℕ → List ℕ
expanded count m session seeds = build (count * col_bytes m) (λ p. get_or (seed_column session m (line 32 seeds (p / col_bytes m))) (p % col_bytes m) 0)

-- the columns that a lent set stands for
abbrev pub columns_of : Bool → ℕ → ℕ → List ℕ → List ℕ → List ℕ
columns_of seeded count m session set = pick seeded (expanded count m session set) set

-- the bytes that stand for one column in a lent set
abbrev pub entry_bytes : Bool → ℕ → ℕ
entry_bytes seeded m = pick seeded 32 (col_bytes m)

-- by their lengths: a session of 12 bytes, a set of `count` entries, and a block of as many columns of 1 to 1,024 rows
abbrev pub set_fit : Bool → ℕ → ℕ → ℕ → ℕ → ℕ → Bool
set_fit seeded count m session set block =
    leb 1 m && (leb m 1024 && (eqb session 12 && (eqb set (count * entry_bytes seeded m) && eqb block (count * col_bytes m))))
