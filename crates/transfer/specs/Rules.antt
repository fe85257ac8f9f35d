-- Document 01, section 7: the table of refusals, a line for each number in the table's words, and for each call the order in which it tries them.
use Rattle.std.specs.Prelude.{◌≡◌, Bool, true, false, not, List, [], ◌∷◌, ◌++◌, ◌⊎◌, ◌↔◌, ℕ, suc, ◌+◌, ◌*◌, ◌/◌, ◌<◌, ◌≤◌, eqb, length, get_or, drop}
use Rattle.basics.specs.declared.Verdict.{Verdict}
use Rattle.basics.specs.Bytes.{bit_in, be16_at}
use Rattle.basics.specs.Padding.{col_bytes}
use Rattle.basics.specs.Verdicts.{at, pass}
use Rattle.columns.specs.Sets.{entry_bytes}
use Rattle.wire.specs.declared.Shape.{Shape}
use Rattle.wire.specs.Shapes.{k_of, block_length, length_of}
use Rattle.wire.specs.Message.{session_at, block_header_at, block_at, shape_bytes}
use Rattle.reading.specs.declared.Cursor.{Cursor}
use Rattle.reading.specs.Reading.{shape_in, tag_in, length_in}

-- ---- a line of the table, and what 'given exactly when' says of a list of lines

-- the number, and that it is given with a place
pub record Rule : Type 1 where
  pub number : ℕ
  pub given : ℕ → Type 0

abbrev pub rule : ℕ → (ℕ → Type 0) → Rule
rule number given = record { number = number; given = given }

-- given at one place, where A holds
abbrev pub There : ℕ → Type 0 → ℕ → Type 0
There place A p = (p ≡ place) × A

-- 'the smallest failing place is reported'
abbrev pub Smallest : (ℕ → Type 0) → ℕ → Type 0
Smallest P p = P p × ((q : ℕ) → q < p → P q → ⊥)

-- the refusal `number` at `place`: its line holds there, and no line tried earlier holds anywhere
abbrev pub Tried : List Rule → ℕ → ℕ → Type 0
Tried [] number place = ⊥
Tried (r ∷ rs) number place = ((r.number ≡ number) × r.given place) ⊎ (((q : ℕ) → r.given q → ⊥) × Tried rs number place)

-- no line holds anywhere
abbrev pub None : List Rule → Type 0
None [] = Unit {0}
None (r ∷ rs) = ((q : ℕ) → r.given q → ⊥) × None rs

-- a verdict is the one that a list of lines, tried in order, calls for: it is 0 at 0 or a refusal; a refusal exactly if its line calls for it, at its
-- place; 0 at 0 exactly if no line does
pub record Decided (rules : List Rule) (v : Verdict) : Type 0 where
  pub either : (v ≡ pass) ⊎ (0 < v.code)
  pub refused : (number place : ℕ) → 0 < number → (v ≡ at number place) ↔ Tried rules number place
  pub passed : (v ≡ pass) ↔ None rules

-- lines that apply where a test holds
abbrev pub when : Bool → List Rule → List Rule
when true rules = rules
when false rules = []

-- one list of lines or another
abbrev pub choose : Bool → List Rule → List Rule → List Rule
choose true these those = these
choose false these those = those

-- ---- the shape, 1 to 5

-- section 2's table: n is exactly 2 in mode 1, and 2 to 256 in mode 2
abbrev pub Allowed : ℕ → ℕ → Type 0
Allowed mode n = ((mode ≡ 1) × (n ≡ 2)) ⊎ ((mode ≡ 2) × (2 ≤ n) × (n ≤ 256))

unfoldable pub shape_rules : ℕ → ℕ → ℕ → ℕ → List Rule
shape_rules mode m n l =
    rule 1 (There 0 ((mode ≡ 1 → ⊥) × (mode ≡ 2 → ⊥)))
    ∷ rule 2 (There 0 ((m ≡ 0) ⊎ (1024 < m)))
    ∷ rule 3 (There 0 (Allowed mode n → ⊥))
    ∷ rule 4 (There 0 ((l ≡ 0) ⊎ (32 < l)))
    ∷ rule 5 (There 0 (32768 < m * n * l))
    ∷ []

-- ---- lent buffers, 6 to 9

-- Buffers that are numbered from `first` on, each as the length that it has and the length that section 5 asks: number p has the wrong length.
abbrev pub Wrong : ℕ → List (ℕ × ℕ) → ℕ → Type 0
Wrong first [] p = ⊥
Wrong first (b ∷ bs) p = ((p ≡ first) × (b.0 ≡ b.1 → ⊥)) ⊎ Wrong (suc first) bs p

-- all have the lengths asked
abbrev pub Fit : List (ℕ × ℕ) → Type 0
Fit [] = Unit {0}
Fit (b ∷ bs) = (b.0 ≡ b.1) × Fit bs

abbrev pub length_rules : List (ℕ × ℕ) → List (ℕ × ℕ) → List Rule
length_rules inputs outputs = rule 6 (Smallest (Wrong 1 inputs)) ∷ rule 7 (Smallest (Wrong 1 outputs)) ∷ []

abbrev pub TooLarge : ℕ → ℕ → List ℕ → ℕ → Type 0
TooLarge m n selections j = (j < m) × (n ≤ get_or selections j 0)

abbrev pub selection_rules : ℕ → ℕ → List ℕ → List Rule
selection_rules m n selections = rule 8 (Smallest (TooLarge m n selections)) ∷ []

-- column i of a set of columns of m rows has padding set: a bit from m upward is 1
abbrev pub PaddingSet : ℕ → List ℕ → ℕ → Type 0
PaddingSet m s i = (j : ℕ) × (m ≤ j) × (j < col_bytes m * 8) × (bit_in (col_bytes m) s i j ≡ 1)

-- place p is a column with padding set, of k columns
abbrev pub InOne : ℕ → ℕ → List ℕ → ℕ → Type 0
InOne k m s p = (p < k) × PaddingSet m s p

-- the same for two sets: column i of the first at i, of the second at k + i
abbrev pub InTwo : ℕ → ℕ → List ℕ → List ℕ → ℕ → Type 0
InTwo k m first second p = (i : ℕ) × (i < k) × (((p ≡ i) × PaddingSet m first i) ⊎ ((p ≡ k + i) × PaddingSet m second i))

-- ---- a message, 10 to 13

-- 'fewer than 3 bytes remain, the tag or length is not the expected one, or fewer value bytes remain than it says'
pub data Malformed (message : List ℕ) (place tag len : ℕ) : Type 0 where
  few_remain : length message < place + 3 → Malformed message place tag len
  other_tag : (get_or message place 0 ≡ tag → ⊥) → Malformed message place tag len
  other_length : (be16_at message (place + 1) ≡ len → ⊥) → Malformed message place tag len
  value_cut : length message < place + 3 + be16_at message (place + 1) → Malformed message place tag len

abbrev pub header_rule : List ℕ → ℕ → ℕ → ℕ → Rule
header_rule message place tag len = rule 10 (There place (Malformed message place tag len))

-- bytes are left over from a place on
abbrev pub over_rule : List ℕ → ℕ → Rule
over_rule message place = rule 10 (There place (place < length message))

-- byte i of the n bytes from `place` on is not the expected one
abbrev pub Differs : List ℕ → ℕ → ℕ → List ℕ → ℕ → Type 0
Differs message place n value i = (i < n) × (get_or message (place + i) 0 ≡ get_or value i 0 → ⊥)

-- a block of columns has tag 3; masked strings have no padding
abbrev pub block_rules : ℕ → ℕ → ℕ → List ℕ → List Rule
block_rules tag mode m message = when (eqb tag 3) (rule 13 (Smallest (InOne (k_of mode) m (drop block_at message))) ∷ [])

-- what an operation asks of a received message, from its front
unfoldable pub message_rules : ℕ → ℕ → ℕ → ℕ → ℕ → List ℕ → List ℕ → List Rule
message_rules tag mode m n l session message =
    header_rule message 0 1 6
    ∷ rule 11 (Smallest (Differs message 3 6 (shape_bytes mode m n l)))
    ∷ header_rule message session_at 2 12
    ∷ rule 12 (Smallest (Differs message (session_at + 3) 12 session))
    ∷ header_rule message block_header_at tag (block_length tag mode m n l)
    ∷ over_rule message (block_at + block_length tag mode m n l)
    ∷ block_rules tag mode m message

-- ---- section 5, 'lent input, in this order, with exact lengths', and the outputs: the length that each buffer has, and the length asked of it

abbrev pub prepare_inputs : Bool → ℕ → ℕ → List ℕ → List ℕ → List ℕ → List ℕ → List (ℕ × ℕ)
prepare_inputs seeded mode m session first second selections =
    (length session, 12)
    ∷ (length first, k_of mode * entry_bytes seeded m)
    ∷ (length second, k_of mode * entry_bytes seeded m)
    ∷ (length selections, m)
    ∷ []

abbrev pub prepare_outputs : ℕ → ℕ → ℕ → ℕ → List (ℕ × ℕ)
prepare_outputs mode m message kept = (message, block_at + k_of mode * col_bytes m) ∷ (kept, m * (k_of mode / 8)) ∷ []

abbrev pub answer_inputs : Bool → ℕ → ℕ → ℕ → ℕ → List ℕ → List ℕ → List ℕ → List ℕ → List (ℕ × ℕ)
answer_inputs seeded mode m n l session secret taken strings =
    (length session, 12)
    ∷ (length secret, k_of mode / 8)
    ∷ (length taken, k_of mode * entry_bytes seeded m)
    ∷ (length strings, m * n * l)
    ∷ []

abbrev pub answer_outputs : ℕ → ℕ → ℕ → ℕ → List (ℕ × ℕ)
answer_outputs m n l message = (message, block_at + m * n * l) ∷ []

abbrev pub open_inputs : ℕ → ℕ → List ℕ → List ℕ → List ℕ → List (ℕ × ℕ)
open_inputs mode m session selections kept = (length session, 12) ∷ (length selections, m) ∷ (length kept, m * (k_of mode / 8)) ∷ []

abbrev pub open_outputs : ℕ → ℕ → ℕ → List (ℕ × ℕ)
open_outputs m l opened = (opened, m * l) ∷ []

-- ---- the operations: 1 to 9 in number order, then the message. The last numbers are the lengths of the outputs

unfoldable pub prepare_rules : Bool → ℕ → ℕ → ℕ → ℕ → List ℕ → List ℕ → List ℕ → List ℕ → ℕ → ℕ → List Rule
prepare_rules seeded mode m n l session first second selections message kept =
    shape_rules mode m n l
    ++ (length_rules (prepare_inputs seeded mode m session first second selections) (prepare_outputs mode m message kept)
    ++ (selection_rules m n selections ++ when (not seeded) (rule 9 (Smallest (InTwo (k_of mode) m first second)) ∷ [])))

unfoldable pub answer_rules : Bool → ℕ → ℕ → ℕ → ℕ → List ℕ → List ℕ → List ℕ → List ℕ → List ℕ → ℕ → List Rule
answer_rules seeded mode m n l session secret taken strings columns message =
    shape_rules mode m n l
    ++ (length_rules (answer_inputs seeded mode m n l session secret taken strings) (answer_outputs m n l message)
    ++ (when (not seeded) (rule 9 (Smallest (InOne (k_of mode) m taken)) ∷ []) ++ message_rules 3 mode m n l session columns))

unfoldable pub open_rules : ℕ → ℕ → ℕ → ℕ → List ℕ → List ℕ → List ℕ → List ℕ → ℕ → List Rule
open_rules mode m n l session selections kept message opened =
    shape_rules mode m n l
    ++ (length_rules (open_inputs mode m session selections kept) (open_outputs m l opened)
    ++ (selection_rules m n selections ++ message_rules 4 mode m n l session message))

-- ---- the lower library, section 4: by the lengths of what is lent

unfoldable pub hash_rules : ℕ → ℕ → List Rule
hash_rules input digest = rule 6 (There 1 (65535 < input)) ∷ rule 7 (There 1 (digest ≡ 32 → ⊥)) ∷ []

unfoldable pub cipher_rules : ℕ → ℕ → ℕ → List Rule
cipher_rules key nonce out = length_rules ((key, 32) ∷ (nonce, 12) ∷ []) ((out, 64) ∷ [])

-- ---- the reader's step and the listing, sections 6 and 8: 1 to 5 on field 1's value in 11's turn, tag 3 or 4 at byte 24

abbrev pub verdict_rules : Shape → List Rule
verdict_rules s = shape_rules s.mode s.rows s.places s.bytes

abbrev pub block_header_rule : List ℕ → Shape → Rule
block_header_rule message s =
    rule 10 (There block_header_at
    (((tag_in message ≡ 3 → ⊥) × (tag_in message ≡ 4 → ⊥)) ⊎ Malformed message block_header_at (tag_in message) (length_of (tag_in message) s)))

-- the place tells the field
unfoldable pub step_rules : List ℕ → Cursor → List Rule
step_rules message c =
    choose (eqb c.place 0) (header_rule message 0 1 6 ∷ verdict_rules (shape_in message))
    (choose (eqb c.place session_at) (header_rule message session_at 2 12 ∷ [])
    (choose (eqb c.place block_header_at) (block_header_rule message c.shape ∷ [])
    (over_rule message c.place ∷ [])))

unfoldable pub list_rules : List ℕ → List Rule
list_rules message =
    (header_rule message 0 1 6 ∷ verdict_rules (shape_in message))
    ++ (header_rule message session_at 2 12
    ∷ block_header_rule message (shape_in message)
    ∷ over_rule message (block_at + length_in message)
    ∷ block_rules (tag_in message) (shape_in message).mode (shape_in message).rows message)
