-- Laws of an exchange: from the contracts of the three calls to what it comes to, by demand 2. Where a call refuses, those after it are taken as
-- their contracts give them, so that demand 2 speaks of a whole run there too. Assumes nothing.
use mathlib.Core.Path.{◌≡◌, refl, sym, ap, ap₂, ◌∙◌, subst}
use mathlib.Core.Bool.{true}
use mathlib.Core.List.{List}
use Prim.Native.Nat.{ℕ, ◌*◌, ◌<◌}
use native.Mathlib.Omega.{arith}
use lib.ListN.{length}
use Rattle.basics.specs.declared.Verdict.{Verdict}
use Rattle.basics.specs.Verdicts.{written, Gives}
use Rattle.basics.proofs.Verdicts.{stop, go, gives_passed, gives_refused}
use Rattle.words.specs.Code.{code_of}
use Rattle.construction.specs.Transfer.{select}
use Rattle.columns.specs.Sets.{columns_of}
use Rattle.wire.specs.Shapes.{k_of}
use Rattle.buyer.specs.Prepare.{column_message, kept_rows, Prepared}
use Rattle.buyer.specs.Open.{open_verdict, Opened}
use Rattle.columns.proofs.Sizes.{k_of_lem}
use Rattle.supplier.specs.Answer.{answer_verdict, answer_message, Answered}
use Rattle.outside.specs.Taken.{taken_set}
use Rattle.outside.proofs.Taken.{length-taken_set, taken_set-select}
use Rattle.transfer.specs.Demands.{Run, Selects}
use Rattle.transfer.proofs.Opening.{prepared_fits, answered_fits, selects_same, demand_2}
use Rattle.exchange.specs.Exchanged.{exchange_verdict, Exchanged}

-- a call by its contract
given : (v : Verdict) (new old : List ℕ) → Gives v new old v (written v new old)
given v new old = record { verdict = refl; output = refl }

refused : {x : ℕ} → 0 < x → x ≡ 0 → ⊥
refused h e = omega arith

module _ (mode m n l : ℕ) (session first second selections secret strings taken₀ message₀ kept₀ answer₀ opened₀ : List ℕ) where
  -- what the base transfers leave to the supplier
  abbrev pub taken : List ℕ
  taken = taken_set 32 secret first second (length taken₀)

  abbrev pub Result : Verdict → List ℕ → Type 0
  Result r opened = Exchanged mode m n l session first second selections secret strings taken₀ message₀ kept₀ answer₀ opened₀ r opened

  module _ {r₁ : Verdict} {message kept : List ℕ} (p : Prepared true mode m n l session first second selections message₀ kept₀ r₁ message kept) where
    module _ {r₂ : Verdict} {answer : List ℕ} (a : Answered true mode m n l session secret taken strings message answer₀ r₂ answer) where
      abbrev run : {r₃ : Verdict} {opened : List ℕ} → Opened mode m n l session selections kept answer opened₀ r₃ opened
          → Run true true mode m n l session first second selections secret taken strings
      run {r₃} {opened} o = record {
        message₀ = message₀;
        kept₀ = kept₀;
        answer₀ = answer₀;
        opened₀ = opened₀;
        message = message;
        kept = kept;
        answer = answer;
        opened = opened;
        preparing = r₁;
        answering = r₂;
        opening = r₃;
        prepares = p;
        answers = a;
        opens = o;
      }

      -- where answer passes, the supplier took what its secret selects
      selecting : r₂.code ≡ 0 → taken ≡ select (code_of mode) 32 secret first second
      selecting z =
          ap (taken_set 32 secret first second)
          (sym (length-taken_set 32 secret first second (length taken₀))
          ∙ (answered_fits true mode m n l session secret taken strings message answer₀ a z).inputs.1.1.0 ∙ ap (λ (x : ℕ). x * 32) (k_of_lem mode))
          ∙ taken_set-select (code_of mode) 32 secret first second

      selects : r₁.code ≡ 0 → r₂.code ≡ 0 → Selects true true mode m session secret first second taken
      selects z₁ z₂ =
          let f = (prepared_fits p z₁).inputs in
          ap (columns_of true (k_of mode) m session) (selecting z₂) ∙ selects_same true mode m session secret first second f.1.0 f.1.1.0

      -- what open says of the kept rows and the answer, it says of what the definitions call so
      open_said : {r₃ : Verdict} {opened : List ℕ} → Opened mode m n l session selections kept answer opened₀ r₃ opened → r₁.code ≡ 0 → r₂.code ≡ 0
          → r₃ ≡ open_verdict mode m n l session selections (kept_rows true mode m session second selections)
          (answer_message true mode m n l session secret taken strings (column_message true mode m n l session first second selections)) (length opened₀)
      open_said o z₁ z₂ =
          o.verdict
          ∙ ap₂ (λ (x y : List ℕ). open_verdict mode m n l session selections x y (length opened₀)) (gives_passed p.rows z₁)
          (gives_passed a z₂ ∙ ap (answer_message true mode m n l session secret taken strings) (gives_passed p.sent z₁))

      answer_said : r₁.code ≡ 0
          → r₂ ≡ answer_verdict true mode m n l session secret taken strings (column_message true mode m n l session first second selections) (length answer₀)
      answer_said z₁ = a.verdict ∙ ap (λ (x : List ℕ). answer_verdict true mode m n l session secret taken strings x (length answer₀)) (gives_passed p.sent z₁)

      -- all three calls are made
      opened_all : {r₃ : Verdict} {opened : List ℕ} → Opened mode m n l session selections kept answer opened₀ r₃ opened → r₁.code ≡ 0 → r₂.code ≡ 0
          → Result r₃ opened
      unfolding exchange_verdict
      opened_all o z₁ z₂ = record {
        verdict = go p.sent.verdict z₁ (go (answer_said z₁) z₂ (open_said o z₁ z₂));
        opens = λ z. demand_2.opens_mixed true true mode m n l session first second selections secret taken strings (run o) (selects z₁ z₂) (z₁, z₂, z);
        untouched = λ h. gives_refused o (refused h);
        accepts = λ w f g h. (demand_2.accepts true true mode m n l session first second selections secret taken strings (run o) w (f, g, h)).2;
      }

      answer_refused : r₁.code ≡ 0 → (r₂.code ≡ 0 → ⊥) → Result r₂ opened₀
      unfolding exchange_verdict
      answer_refused z₁ h = record {
        verdict = go p.sent.verdict z₁ (stop _ (answer_said z₁) h);
        opens = λ z. absurd (h z);
        untouched = λ _. refl;
        accepts = λ w f g o. (demand_2.accepts true true mode m n l session first second selections secret taken strings (run (given _ _ _)) w (f, g, o)).1;
      }

    -- ---- the three ways to return: prepare refuses, answer refuses, and open has the last word. `t` is the taken set as the code holds it

    pub exchanged_prepare : (r₁.code ≡ 0 → ⊥) → Result r₁ opened₀
    unfolding exchange_verdict
    exchanged_prepare h = record {
      verdict = stop _ p.sent.verdict h;
      opens = λ z. absurd (h z);
      untouched = λ _. refl;
      accepts = λ w f g o.
          (demand_2.accepts true true mode m n l session first second selections secret taken strings (run (given _ _ _) (given _ _ _)) w (f, g, o)).0;
    }

    module _ {t : List ℕ} (took : t ≡ taken) {r₂ : Verdict} {answer : List ℕ} (a : Answered true mode m n l session secret t strings message answer₀ r₂ answer) where
      answers : Answered true mode m n l session secret taken strings message answer₀ r₂ answer
      answers = subst (λ (x : List ℕ). Answered true mode m n l session secret x strings message answer₀ r₂ answer) took a

      pub exchanged_answer : r₁.code ≡ 0 → (r₂.code ≡ 0 → ⊥) → Result r₂ opened₀
      exchanged_answer z₁ h = answer_refused answers z₁ h

      pub exchanged_open : {r₃ : Verdict} {opened : List ℕ} → Opened mode m n l session selections kept answer opened₀ r₃ opened
          → r₁.code ≡ 0 → r₂.code ≡ 0 → Result r₃ opened
      exchanged_open o z₁ z₂ = opened_all answers o z₁ z₂
