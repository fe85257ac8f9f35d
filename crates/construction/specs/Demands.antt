-- Demands 2 and 3 about the definitions of `Transfer`, over any code, pad and keystream, with what they rest on: what `proofs/` proves.
use Rattle.std.specs.Prelude.{◌≡◌, List, ℕ, ◌*◌, ◌<◌, length, get_or}
use Rattle.basics.specs.Bytes.{line}
use Rattle.basics.specs.Padding.{col_bytes}
use Rattle.words.specs.Code.{Code, k}
use Rattle.construction.specs.Transfer.{Columns, Selections, column_of, select, hashed, expand, message, kept, taking, answer, opened, selected}

-- ---- expansion

module _ (C : Code) (m : ℕ) where
  -- Section 2, 'zero everywhere, also after expansion': whatever the cipher's block, an expanded set is one that a call accepts.
  abbrev pub ExpandsClear : Type 0
  ExpandsClear = (block : List ℕ → List ℕ → ℕ → List ℕ) (session seeds : List ℕ) → Columns C m (expand C m (column_of block session m) seeds)

  -- Column i of an expanded set is the column of seed i.
  abbrev pub Expands : Type 0
  Expands =
      (col : List ℕ → List ℕ) (seeds : List ℕ) (i : ℕ) → i < k C → length (col (line 32 seeds i)) ≡ col_bytes m
      → line (col_bytes m) (expand C m col seeds) i ≡ col (line 32 seeds i)

  -- The form from seeds is the form from columns on the expanded columns: the buyer's by what `message` and `kept` are given, and the supplier's
  -- because the columns of the seeds that its secret selects are the columns that its secret selects.
  abbrev pub ExpandsTaken : Type 0
  ExpandsTaken =
      (col : List ℕ → List ℕ) (secret us vs : List ℕ) → length us ≡ k C * 32 → length vs ≡ k C * 32
      → expand C m col (select C 32 secret us vs) ≡ select C (col_bytes m) secret (expand C m col us) (expand C m col vs)

  -- ---- what demand 2 rests on: at the selected place the hashed row is the kept row, for every secret

  abbrev pub KeepsRow : Type 0
  KeepsRow =
      (secret u v sel : List ℕ) → length u ≡ k C * col_bytes m → length v ≡ k C * col_bytes m → (j : ℕ) → j < m
      → hashed C secret (taking C m secret (message C m u v sel) (select C (col_bytes m) secret u v)) j (get_or sel j 0)
      ≡ line C.width (kept C m v sel) j

module _ (C : Code) (pad : ℕ → List ℕ → List ℕ) (m n l : ℕ) where
  -- Demand 2: the supplier took the columns that its secret selects, and each row opens to the string at the selected place.
  abbrev pub Opens : Type 0
  Opens =
      (secret u v sel strings : List ℕ) → length u ≡ k C * col_bytes m → length v ≡ k C * col_bytes m → Selections m n sel
      → opened C pad m n l sel (kept C m v sel)
      (answer C pad m n l secret (message C m u v sel) (select C (col_bytes m) secret u v) strings)
      ≡ selected m n l sel strings

  -- The same from seeds: the supplier's seeds are the ones that its secret selects.
  abbrev pub OpensSeeds : Type 0
  OpensSeeds =
      (col : List ℕ → List ℕ) (secret us vs sel strings : List ℕ) → length us ≡ k C * 32 → length vs ≡ k C * 32 → Selections m n sel
      → opened C pad m n l sel (kept C m (expand C m col vs) sel)
      (answer C pad m n l secret (message C m (expand C m col us) (expand C m col vs) sel) (expand C m col (select C 32 secret us vs)) strings)
      ≡ selected m n l sel strings

  -- Demand 3: given what the supplier holds, its secret, its strings and the columns it took, and the block of a message that it accepts, a list of
  -- selections fits with exactly one choice of the columns that it did not take, and with that choice its one answer opens to the strings at that
  -- list's places. The buyer's first set has the taken column where the secret has 0, and its second set where it has 1.
  pub record Hidden (secret strings taken block sel : List ℕ) : Type 0 where
    pub untaken : List ℕ
    pub columns : Columns C m untaken
    pub sends : message C m (select C (col_bytes m) secret taken untaken) (select C (col_bytes m) secret untaken taken) sel ≡ block
    pub only : (other : List ℕ) → Columns C m other
        → message C m (select C (col_bytes m) secret taken other) (select C (col_bytes m) secret other taken) sel ≡ block → other ≡ untaken
    pub opens : opened C pad m n l sel (kept C m (select C (col_bytes m) secret untaken taken) sel) (answer C pad m n l secret block taken strings)
        ≡ selected m n l sel strings

  abbrev pub Hides : Type 0
  Hides =
      (secret strings taken block sel : List ℕ) → Columns C m taken → Columns C m block → Selections m n sel
      → Hidden secret strings taken block sel
