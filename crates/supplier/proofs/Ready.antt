-- What a verdict of 0 tells the writers of an answer: every length, in the code's k and c. Assumes nothing.
use mathlib.Core.Path.{◌≡◌, ap, ◌∙◌}
use mathlib.Core.Bool.{Bool}
use mathlib.Core.List.{List}
use Prim.Native.Nat.{ℕ, ◌+◌, ◌*◌, ◌/◌}
use native.Mathlib.Nat.{mul_assoc}
use native.Mathlib.Omega.{arith}
use lib.Dec.{eqb}
use lib.ListN.{length}
use borrow.Author.Tests.{eqb-true}
use Rattle.basics.specs.Bytes.{Bytes}
use Rattle.basics.specs.Padding.{col_bytes}
use Rattle.basics.proofs.Verdicts.{unless_ok, or_else_ok}
use Rattle.words.specs.Code.{code_of}
use Rattle.wire.specs.Shapes.{k_of, block_length}
use Rattle.wire.specs.Message.{block_at}
use Rattle.wire.proofs.Shapes.{Passes, shape_ok}
use Rattle.wire.proofs.Received.{received_ok}
use Rattle.columns.specs.Sets.{entry_bytes}
use Rattle.columns.proofs.Sizes.{k_of_lem, row_of}
use Rattle.supplier.specs.Answer.{answer_lengths, answer_verdict}
use Rattle.supplier.specs.Taking.{TakeFit}
use Rattle.supplier.specs.Masking.{MaskFit}

-- refusals 6 and 7 passed
pub record Lengths (seeded : Bool) (mode m n l session secret taken strings message : ℕ) : Type 0 where
  pub session_long : session ≡ 12
  pub secret_long : secret ≡ k_of mode / 8
  pub taken_long : taken ≡ k_of mode * entry_bytes seeded m
  pub strings_long : strings ≡ m * n * l
  pub message_long : message ≡ block_at + m * n * l

pub lengths_ok : (seeded : Bool) (mode m n l session secret taken strings message : ℕ) → (answer_lengths seeded mode m n l session secret taken strings message).code ≡ 0
    → Lengths seeded mode m n l session secret taken strings message
unfolding answer_lengths
lengths_ok seeded mode m n l session secret taken strings message h =
    let a = unless_ok (eqb session 12) _ _ _ (omega arith) h in
    let b = unless_ok (eqb secret (k_of mode / 8)) _ _ _ (omega arith) a.1 in
    let c = unless_ok (eqb taken (k_of mode * entry_bytes seeded m)) _ _ _ (omega arith) b.1 in
    let d = unless_ok (eqb strings (m * n * l)) _ _ _ (omega arith) c.1 in
    let e = unless_ok (eqb message (block_at + m * n * l)) _ _ _ (omega arith) d.1 in
    record {
      session_long = eqb-true _ _ a.0;
      secret_long = eqb-true _ _ b.0;
      taken_long = eqb-true _ _ c.0;
      strings_long = eqb-true _ _ d.0;
      message_long = eqb-true _ _ e.0;
    }

-- all that is known where the whole verdict is 0
pub record Ready (seeded : Bool) (mode m n l : ℕ) (session secret taken strings received : List ℕ) (message : ℕ) : Type 0 where
  pub shape : Passes mode m n l
  pub lengths : Lengths seeded mode m n l (length session) (length secret) (length taken) (length strings) message
  pub received_long : length received ≡ block_at + k_of mode * col_bytes m

module _ (seeded : Bool) (mode m n l : ℕ) (session secret taken strings received : List ℕ) (message : ℕ) where
  pub ready_shape : (answer_verdict seeded mode m n l session secret taken strings received message).code ≡ 0 → Passes mode m n l
  unfolding answer_verdict
  ready_shape h = shape_ok mode m n l (or_else_ok _ _ h).0

  pub ready : (answer_verdict seeded mode m n l session secret taken strings received message).code ≡ 0 → Bytes received
      → Ready seeded mode m n l session secret taken strings received message
  unfolding answer_verdict block_length
  ready h bytes =
      let a = or_else_ok _ _ h in
      let b = or_else_ok _ _ a.1 in
      let c = or_else_ok _ _ b.1 in
      let f = lengths_ok seeded mode m n l (length session) (length secret) (length taken) (length strings) message b.0 in
      record {
        shape = ready_shape h;
        lengths = f;
        received_long = (received_ok 3 (block_length 3 mode m n l) mode m n l session received bytes f.session_long c.1).long;
      }

  -- what taking and masking ask
  pub ready_take : Ready seeded mode m n l session secret taken strings received message → (block rows : ℕ) → block ≡ k_of mode * col_bytes m → rows ≡ m * (code_of mode).width
      → TakeFit seeded mode m (length session) (length secret) (length taken) block rows
  ready_take z block rows hb hr = record {
    some = z.shape.rows-some;
    few = z.shape.rows_few;
    session_long = z.lengths.session_long;
    secret_long = z.lengths.secret_long ∙ row_of mode;
    taken_long = z.lengths.taken_long ∙ ap (λ (x : ℕ). x * entry_bytes seeded m) (k_of_lem mode) ∙ mul_assoc (code_of mode).width 8 (entry_bytes seeded m);
    block_long = hb ∙ ap (λ (x : ℕ). x * col_bytes m) (k_of_lem mode) ∙ mul_assoc (code_of mode).width 8 (col_bytes m);
    rows_long = hr;
  }

  pub ready_mask : Ready seeded mode m n l session secret taken strings received message → (rows : ℕ) → rows ≡ m * (code_of mode).width
      → MaskFit mode m n l (length session) (length secret) rows (length strings)
  ready_mask z rows hr = record {
    rows_few = z.shape.rows_few;
    places_few = z.shape.places_few;
    bytes_few = z.shape.bytes_few;
    session_long = z.lengths.session_long;
    secret_long = z.lengths.secret_long ∙ row_of mode;
    rows_long = hr;
    strings_long = z.lengths.strings_long;
  }
