-- The three demands over whole calls, as types: what `proofs/` proves. A call is spoken of through its contract alone, the record that its `ensures` cites.
use Rattle.std.specs.Prelude.{◌≡◌, Bool, true, false, List, ◌++◌, ℕ, ◌*◌, ◌<◌, length, drop, Result}
use Rattle.std.specs.Borrow.{Bor}
use Rattle.basics.specs.declared.Refusal.{Refusal}
use Rattle.basics.specs.declared.Verdict.{Verdict}
use Rattle.basics.specs.Choice.{pick}
use Rattle.basics.specs.Bytes.{Bytes, bit_at, bit_in, line}
use Rattle.basics.specs.Padding.{col_bytes}
use Rattle.basics.specs.Verdicts.{verdict, pass, Gives}
use Rattle.symmetric.specs.Sha.{sha256}
use Rattle.symmetric.specs.ChaCha.{chacha20}
use Rattle.symmetric.specs.Calls.{hash_verdict, block_verdict}
use Rattle.words.specs.Code.{k, code_of}
use Rattle.construction.specs.Paper as paper
use Rattle.construction.specs.Paper.{Vector}
use Rattle.construction.specs.Transfer.{Columns, Selections, select, selected}
use Rattle.construction.specs.Agreement as agreement
use Rattle.construction.specs.Agreement.{strings_in, oracle}
use Rattle.columns.specs.Sets.{seed_column, expanded, columns_of, entry_bytes}
use Rattle.pads.specs.Pads.{pad_bytes}
use Rattle.wire.specs.Shapes.{k_of}
use Rattle.wire.specs.Message.{block_at}
use Rattle.reading.specs.declared.Cursor.{Cursor}
use Rattle.reading.specs.declared.Reader.{Reader}
use Rattle.reading.specs.declared.Step.{Step}
use Rattle.reading.specs.Reading.{shape_in, tag_in, length_in, number_of, Stepped}
use Rattle.reading.specs.Readers.{reader_of, cursor_of, ReaderStepped}
use Rattle.listing.specs.declared.Listing.{Listing}
use Rattle.listing.specs.Text.{listed, Holds}
use Rattle.listing.specs.Lines.{shape_line, session_line, block_line, refused_line, list_verdict, listing_of}
use Rattle.buyer.specs.Prepare.{Prepared}
use Rattle.buyer.specs.Open.{Opened}
use Rattle.supplier.specs.Answer.{Answered}
use Rattle.transfer.specs.Rules.{Rule, Tried, None, Decided, Fit, shape_rules, prepare_inputs, prepare_outputs, answer_inputs, answer_outputs, open_outputs, prepare_rules, answer_rules, open_rules, hash_rules, cipher_rules, step_rules, list_rules}

-- ---- demand 1: a refusal exactly when section 7 says, with its place; on any refusal every output buffer holds its old bytes

pub record Refuses (rules : List Rule) (r : Verdict) (unchanged : Type 0) : Type 0 where
  pub exactly : Decided rules r
  pub untouched : 0 < r.code → unchanged

pub record Demand1 : Type 0 where
  pub hash : (input digest : List ℕ) (r : Verdict) (digest' : List ℕ)
      → Gives (hash_verdict (length input) (length digest)) (sha256 input) digest r digest'
      → Refuses (hash_rules (length input) (length digest)) r (digest' ≡ digest)
  pub block : (key nonce : List ℕ) (counter : ℕ) (out : List ℕ) (r : Verdict) (out' : List ℕ)
      → Gives (block_verdict (length key) (length nonce) (length out)) (chacha20 key nonce counter) out r out'
      → Refuses (cipher_rules (length key) (length nonce) (length out)) r (out' ≡ out)
  pub prepare : (seeded : Bool) (mode m n l : ℕ) (session first second selections message kept : List ℕ) (r : Verdict) (message' kept' : List ℕ)
      → Prepared seeded mode m n l session first second selections message kept r message' kept'
      → Refuses (prepare_rules seeded mode m n l session first second selections (length message) (length kept)) r
      ((message' ≡ message) × (kept' ≡ kept))
  pub answer : (seeded : Bool) (mode m n l : ℕ) (session secret taken strings columns message : List ℕ) (r : Verdict) (message' : List ℕ)
      → Answered seeded mode m n l session secret taken strings columns message r message'
      → Refuses (answer_rules seeded mode m n l session secret taken strings columns (length message)) r (message' ≡ message)
  pub opening : (mode m n l : ℕ) (session selections kept message opened : List ℕ) (r : Verdict) (opened' : List ℕ)
      → Opened mode m n l session selections kept message opened r opened'
      → Refuses (open_rules mode m n l session selections kept message (length opened)) r (opened' ≡ opened)
  -- a step has document 01's number by `number_of`. The reader, which is lent, stays where it was
  pub next : (before after : Reader) (t : Step) → ReaderStepped before after t
      → Refuses (step_rules before.message.now (cursor_of before)) (number_of t) (after ≡ before)
  -- the same over a cursor by value
  pub step : (message : List ℕ) (c : Cursor) (r : Step) → Stepped message c r → Decided (step_rules message c) (number_of r)
  -- the listing refuses by the line that it prints
  pub list : (message : List ℕ) (r : Listing) → Holds (listing_of message) r
      → Decided (list_rules message) (list_verdict message)
      × ((number place : ℕ) → 0 < number → Tried (list_rules message) number place → r ≡ listed (refused_line number place))
      × (None (list_rules message) → r ≡ listed (shape_line (tag_in message) (shape_in message) ++ (session_line message ++ block_line (length_in message))))

-- ---- demand 2: what the buyer opens

-- One run under one shape and one session. Both messages arrive unchanged, and the buyer opens with the selections it prepared and the rows it kept:
-- the same names stand in the calls. A name with ₀ is what a lent output held before. `buyer` and `supplier` tell which form each side calls.
pub record Run (buyer supplier : Bool) (mode m n l : ℕ) (session first second selections secret taken strings : List ℕ) : Type 0 where
  pub message₀ : List ℕ
  pub kept₀ : List ℕ
  pub answer₀ : List ℕ
  pub opened₀ : List ℕ
  pub message : List ℕ
  pub kept : List ℕ
  pub answer : List ℕ
  pub opened : List ℕ
  pub preparing : Verdict
  pub answering : Verdict
  pub opening : Verdict
  pub prepares : Prepared buyer mode m n l session first second selections message₀ kept₀ preparing message kept
  pub answers : Answered supplier mode m n l session secret taken strings message answer₀ answering answer
  pub opens : Opened mode m n l session selections kept answer opened₀ opening opened

module _ {buyer supplier : Bool} {mode m n l : ℕ} {session first second selections secret taken strings : List ℕ} where
  -- no call is refused
  abbrev pub Passed : Run buyer supplier mode m n l session first second selections secret taken strings → Type 0
  Passed run = (run.preparing.code ≡ 0) × (run.answering.code ≡ 0) × (run.opening.code ≡ 0)

  -- each is 0 at 0
  abbrev pub Success : Run buyer supplier mode m n l session first second selections secret taken strings → Type 0
  Success run = (run.preparing ≡ pass) × (run.answering ≡ pass) × (run.opening ≡ pass)

  -- the outputs have section 5's lengths
  abbrev pub Room : Run buyer supplier mode m n l session first second selections secret taken strings → Type 0
  Room run =
      Fit (prepare_outputs mode m (length run.message₀) (length run.kept₀))
      × Fit (answer_outputs m n l (length run.answer₀))
      × Fit (open_outputs m l (length run.opened₀))

-- the columns that the supplier's set stands for are the ones that its secret selects of the columns that the buyer's two sets stand for
abbrev pub Selects : Bool → Bool → ℕ → ℕ → List ℕ → List ℕ → List ℕ → List ℕ → List ℕ → Type 0
Selects buyer supplier mode m session secret first second taken =
    columns_of supplier (k_of mode) m session taken
    ≡ select (code_of mode) (col_bytes m) secret (columns_of buyer (k_of mode) m session first) (columns_of buyer (k_of mode) m session second)

-- inputs by the rules: an allowed shape, section 5's lengths, selections in range, and clear padding in columns that are handed in
pub record Lawful (buyer supplier : Bool) (mode m n l : ℕ) (session first second selections secret taken strings : List ℕ) : Type 0 where
  pub shape : None (shape_rules mode m n l)
  pub prepare_long : Fit (prepare_inputs buyer mode m session first second selections)
  pub answer_long : Fit (answer_inputs supplier mode m n l session secret taken strings)
  pub in_range : Selections m n selections
  pub buyer_clear : buyer ≡ false → Columns (code_of mode) m first × Columns (code_of mode) m second
  pub supplier_clear : supplier ≡ false → Columns (code_of mode) m taken

-- the source's oracle G: the bits of the column that an entry of a lent set stands for, an expanded seed or the column itself. Its oracle H: SHA-256's pad
abbrev pub G : Bool → List ℕ → ℕ → List ℕ → Vector
G seeded session m entry = bit_at (pick seeded (seed_column session m entry) entry)

abbrev pub H : ℕ → List ℕ → ℕ → ℕ → Vector → Vector
H mode session l = oracle (code_of mode) (pad_bytes session l)

-- entry i of a lent set
abbrev pub entries : Bool → ℕ → List ℕ → ℕ → List ℕ
entries seeded m set = line (entry_bytes seeded m) set

pub record Demand2 : Type 0 where
  -- each row opens to the string at the selected place; the supplier's seeds, or columns, are the ones its secret selects
  pub opens : (seeded : Bool) (mode m n l : ℕ) (session first second selections secret strings : List ℕ)
      (run : Run seeded seeded mode m n l session first second selections secret (select (code_of mode) (entry_bytes seeded m) secret first second) strings)
      → Passed run → run.opened ≡ selected m n l selections strings
  -- also where the two sides call different forms
  pub opens_mixed : (buyer supplier : Bool) (mode m n l : ℕ) (session first second selections secret taken strings : List ℕ)
      (run : Run buyer supplier mode m n l session first second selections secret taken strings)
      → Selects buyer supplier mode m session secret first second taken → Passed run → run.opened ≡ selected m n l selections strings
  -- no call is refused on inputs by the rules
  pub accepts : (buyer supplier : Bool) (mode m n l : ℕ) (session first second selections secret taken strings : List ℕ)
      (run : Run buyer supplier mode m n l session first second selections secret taken strings)
      → Lawful buyer supplier mode m n l session first second selections secret taken strings → Room run → Success run
  -- the forms from seeds give what the others give on the expanded columns, verdict and outputs
  pub prepare_alike : (mode m n l : ℕ) (session first second selections message kept : List ℕ) (r r' : Verdict) (message₁ kept₁ message₂ kept₂ : List ℕ)
      → Prepared true mode m n l session first second selections message kept r message₁ kept₁
      → Prepared false mode m n l session (expanded (k_of mode) m session first) (expanded (k_of mode) m session second) selections message kept r' message₂ kept₂
      → r.code ≡ 0 → (r' ≡ r) × (message₂ ≡ message₁) × (kept₂ ≡ kept₁)
  pub answer_alike : (mode m n l : ℕ) (session secret taken strings columns message : List ℕ) (r r' : Verdict) (message₁ message₂ : List ℕ)
      → Answered true mode m n l session secret taken strings columns message r message₁
      → Answered false mode m n l session secret (expanded (k_of mode) m session taken) strings columns message r' message₂
      → r.code ≡ 0 → (r' ≡ r) × (message₂ ≡ message₁)
  -- the codes are the source's: repetition in mode 1, Walsh-Hadamard in mode 2
  pub pairs_repeat : (r i : ℕ) → r < 2 → (code_of 1).word r i ≡ paper.repetition r i
  pub choices_walsh : (r x : ℕ) → r < 256 → x < 256 → (code_of 2).word r x ≡ paper.WH 8 r x
  -- Construction 2 bit by bit. Step 4: the message's block has the w_i
  pub sends_w : (seeded : Bool) (mode m n l : ℕ) (session first second selections message₀ kept₀ : List ℕ) (r : Verdict) (message kept : List ℕ)
      → Prepared seeded mode m n l session first second selections message₀ kept₀ r message kept → r.code ≡ 0
      → (i j : ℕ) → i < k (code_of mode) → j < m
      → bit_in (col_bytes m) (drop block_at message) i j
      ≡ paper.w (code_of mode).word (G seeded session m) (agreement.selections selections) (entries seeded m first) (entries seeded m second) i j
  -- step 2: the kept rows are the t_(j,0)
  pub keeps_t0 : (seeded : Bool) (mode m n l : ℕ) (session first second selections message₀ kept₀ : List ℕ) (r : Verdict) (message kept : List ℕ)
      → Prepared seeded mode m n l session first second selections message₀ kept₀ r message kept → r.code ≡ 0
      → (j i : ℕ) → j < m → i < k (code_of mode)
      → bit_in (code_of mode).width kept j i
      ≡ paper.T0 (code_of mode).word (G seeded session m) (agreement.selections selections) (entries seeded m second) j i
  -- steps 5 and 6: the answer's block has the y_(j,r), from the w_i as they arrived
  pub sends_y : (seeded : Bool) (mode m n l : ℕ) (session secret taken strings columns answer₀ : List ℕ) (r : Verdict) (answer : List ℕ)
      → Answered seeded mode m n l session secret taken strings columns answer₀ r answer → r.code ≡ 0
      → (j p t : ℕ) → j < m → p < n → t < l * 8
      → strings_in n l (drop block_at answer) j p t
      ≡ paper.y (code_of mode).word (H mode session l) (bit_at secret)
      (paper.q (G seeded session m) (bit_at secret) (bit_in (col_bytes m) (drop block_at columns)) (entries seeded m taken)) (strings_in n l strings) j p t
  -- step 7: the opened rows are the z_j, from the y_(j,r) as they arrived
  pub recovers_z : (mode m n l : ℕ) (session selections kept answer opened₀ : List ℕ) (r : Verdict) (opened : List ℕ)
      → Opened mode m n l session selections kept answer opened₀ r opened → r.code ≡ 0 → Bytes kept
      → (j t : ℕ) → j < m → t < l * 8
      → bit_in l opened j t
      ≡ paper.z (H mode session l) (agreement.selections selections) (bit_in (code_of mode).width kept) (strings_in n l (drop block_at answer)) j t

-- ---- demand 3: what the supplier sees fits every list of selections

-- the buyer's two sets, from the columns that the supplier took and those that it did not: the first set has the taken column where the secret has 0
abbrev pub first_set : ℕ → ℕ → List ℕ → List ℕ → List ℕ → List ℕ
first_set mode m secret taken untaken = select (code_of mode) (col_bytes m) secret taken untaken

abbrev pub second_set : ℕ → ℕ → List ℕ → List ℕ → List ℕ → List ℕ
second_set mode m secret taken untaken = select (code_of mode) (col_bytes m) secret untaken taken

-- The supplier holds the secret, the strings and the columns it took, received the message and sent the answer. A list of selections is behind the
-- message with exactly one choice of the columns that it did not take, and with that choice its one answer opens to that list's strings.
pub record Behind (mode m n l : ℕ) (session secret strings taken message answer selections : List ℕ) : Type 0 where
  pub untaken : List ℕ
  pub columns : Columns (code_of mode) m untaken
  -- preparing with that choice succeeds and gives that very message, header and all
  pub sends : (message₀ kept₀ : List ℕ) (r : Verdict) (message' kept : List ℕ) → Fit (prepare_outputs mode m (length message₀) (length kept₀))
      → Prepared false mode m n l session (first_set mode m secret taken untaken) (second_set mode m secret taken untaken) selections message₀ kept₀ r message' kept
      → (r ≡ pass) × (message' ≡ message)
  -- with no other choice does it
  pub only : (other : List ℕ) → Columns (code_of mode) m other → (message₀ kept₀ : List ℕ) (r : Verdict) (message' kept : List ℕ)
      → Prepared false mode m n l session (first_set mode m secret taken other) (second_set mode m secret taken other) selections message₀ kept₀ r message' kept
      → r.code ≡ 0 → message' ≡ message → other ≡ untaken
  -- opening with the rows that it keeps succeeds and gives the strings at the selected places
  pub opens : (message₀ kept₀ : List ℕ) (r : Verdict) (message' kept : List ℕ)
      → Prepared false mode m n l session (first_set mode m secret taken untaken) (second_set mode m secret taken untaken) selections message₀ kept₀ r message' kept
      → r.code ≡ 0 → (opened₀ : List ℕ) (r' : Verdict) (opened : List ℕ) → Fit (open_outputs m l (length opened₀))
      → Opened mode m n l session selections kept answer opened₀ r' opened
      → (r' ≡ pass) × (opened ≡ selected m n l selections strings)

-- for a message that answering accepts, in either form; lent inputs are bytes, as every slice of bytes is
abbrev pub Demand3 : Type 0
Demand3 =
    (seeded : Bool) (mode m n l : ℕ) (session secret taken strings message answer₀ : List ℕ) (r : Verdict) (answer : List ℕ)
    → Answered seeded mode m n l session secret taken strings message answer₀ r answer → r.code ≡ 0 → Bytes taken → Bytes message
    → (selections : List ℕ) → Selections m n selections
    → Behind mode m n l session secret strings (columns_of seeded (k_of mode) m session taken) message answer selections

-- ---- section 11: two results that one contract allows are equal, for each public call

pub record Unique : Type 0 where
  -- a call answers success or a refusal, of which its contract tells the verdict: one verdict, one answer
  pub told : (a b : Result (Unit {0}) Refusal) → verdict a ≡ verdict b → a ≡ b
  pub hash : (input digest : List ℕ) (r₁ r₂ : Verdict) (digest₁ digest₂ : List ℕ)
      → Gives (hash_verdict (length input) (length digest)) (sha256 input) digest r₁ digest₁
      → Gives (hash_verdict (length input) (length digest)) (sha256 input) digest r₂ digest₂
      → (r₁ ≡ r₂) × (digest₁ ≡ digest₂)
  pub block : (key nonce : List ℕ) (counter : ℕ) (out : List ℕ) (r₁ r₂ : Verdict) (out₁ out₂ : List ℕ)
      → Gives (block_verdict (length key) (length nonce) (length out)) (chacha20 key nonce counter) out r₁ out₁
      → Gives (block_verdict (length key) (length nonce) (length out)) (chacha20 key nonce counter) out r₂ out₂
      → (r₁ ≡ r₂) × (out₁ ≡ out₂)
  pub prepare : (seeded : Bool) (mode m n l : ℕ) (session first second selections message kept : List ℕ) (r₁ r₂ : Verdict) (message₁ message₂ kept₁ kept₂ : List ℕ)
      → Prepared seeded mode m n l session first second selections message kept r₁ message₁ kept₁
      → Prepared seeded mode m n l session first second selections message kept r₂ message₂ kept₂
      → (r₁ ≡ r₂) × (message₁ ≡ message₂) × (kept₁ ≡ kept₂)
  pub answer : (seeded : Bool) (mode m n l : ℕ) (session secret taken strings columns message : List ℕ) (r₁ r₂ : Verdict) (message₁ message₂ : List ℕ)
      → Answered seeded mode m n l session secret taken strings columns message r₁ message₁
      → Answered seeded mode m n l session secret taken strings columns message r₂ message₂
      → (r₁ ≡ r₂) × (message₁ ≡ message₂)
  pub opening : (mode m n l : ℕ) (session selections kept message opened : List ℕ) (r₁ r₂ : Verdict) (opened₁ opened₂ : List ℕ)
      → Opened mode m n l session selections kept message opened r₁ opened₁
      → Opened mode m n l session selections kept message opened r₂ opened₂
      → (r₁ ≡ r₂) × (opened₁ ≡ opened₂)
  pub new : (message : Bor (List ℕ)) (r₁ r₂ : Reader) → r₁ ≡ reader_of message → r₂ ≡ reader_of message → r₁ ≡ r₂
  pub next : (before after₁ after₂ : Reader) (t₁ t₂ : Step) → ReaderStepped before after₁ t₁ → ReaderStepped before after₂ t₂ → (t₁ ≡ t₂) × (after₁ ≡ after₂)
  pub step : (message : List ℕ) (c : Cursor) (r₁ r₂ : Step) → Stepped message c r₁ → Stepped message c r₂ → r₁ ≡ r₂
  pub list : (message : List ℕ) (r₁ r₂ : Listing) → Holds (listing_of message) r₁ → Holds (listing_of message) r₂ → r₁ ≡ r₂
