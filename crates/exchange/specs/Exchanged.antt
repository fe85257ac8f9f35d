-- What an exchange by the rules comes to: the price that the buyer selected in each row, and nothing else.
use Rattle.std.specs.Prelude.{◌≡◌, true, List, ℕ, ◌<◌, length}
use Rattle.basics.specs.declared.Verdict.{Verdict}
use Rattle.basics.specs.Verdicts.{pass, or_else}
use Rattle.buyer.specs.Prepare.{prepare_verdict, column_message, kept_rows}
use Rattle.buyer.specs.Open.{open_verdict}
use Rattle.supplier.specs.Answer.{answer_verdict, answer_message}
use Rattle.construction.specs.Transfer.{selected}
use Rattle.outside.specs.Taken.{taken_set}
use Rattle.transfer.specs.Rules.{Fit, prepare_outputs, answer_outputs, open_outputs}
use Rattle.transfer.specs.Demands.{Lawful}

-- the verdict of the calls in turn, each on what the one before it gave; the last numbers are the lengths of the outputs
unfoldable pub exchange_verdict : ℕ → ℕ → ℕ → ℕ → List ℕ → List ℕ → List ℕ → List ℕ → List ℕ → List ℕ → List ℕ → ℕ → ℕ → ℕ → ℕ → Verdict
exchange_verdict mode m n l session first second selections secret strings taken message kept answer opened =
    let sent = column_message true mode m n l session first second selections in
    or_else (prepare_verdict true mode m n l session first second selections message kept)
    (or_else (answer_verdict true mode m n l session secret taken strings sent answer)
    (open_verdict mode m n l session selections (kept_rows true mode m session second selections) (answer_message true mode m n l session secret taken strings sent) opened))

-- A name with ₀ is what a lent buffer held before.
pub record Exchanged (mode m n l : ℕ) (session first second selections secret strings taken₀ message₀ kept₀ answer₀ opened₀ : List ℕ) (r : Verdict) (opened : List ℕ) : Type 0 where
  -- the first refusal
  pub verdict : r ≡ exchange_verdict mode m n l session first second selections secret strings (taken_set 32 secret first second (length taken₀)) (length message₀) (length kept₀)
      (length answer₀) (length opened₀)
  -- where no call refuses, each row opens to the string at the selected place
  pub opens : r.code ≡ 0 → opened ≡ selected m n l selections strings
  -- where one does, the buyer's buffer is as it was
  pub untouched : 0 < r.code → opened ≡ opened₀
  -- where inputs and buffers are by the rules, none does
  pub accepts : Lawful true true mode m n l session first second selections secret (taken_set 32 secret first second (length taken₀)) strings
      → Fit (prepare_outputs mode m (length message₀) (length kept₀)) → Fit (answer_outputs m n l (length answer₀)) → Fit (open_outputs m l (length opened₀))
      → r ≡ pass
