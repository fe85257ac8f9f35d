-- Document 01, section 7, refusal 8: a selection is n or more, at the first such row.
use Rattle.std.specs.Prelude.{Bool, List, ℕ, leb, get_or}
use Rattle.basics.specs.declared.Verdict.{Verdict}
use Rattle.basics.specs.Verdicts.{at_first}

-- row j's selection is n or more
unfoldable pub too_large : ℕ → List ℕ → ℕ → Bool
too_large n selections j = leb n (get_or selections j 0)

unfoldable pub selections_verdict : ℕ → ℕ → List ℕ → Verdict
selections_verdict m n selections = at_first m (too_large n selections) 8 0
