-- What a call gives is what its export gives, with the verdict as one number. Assumes nothing.
use mathlib.Core.Path.{◌≡◌, ap, ◌∙◌}
use mathlib.Core.List.{List}
use Prim.Native.Nat.{ℕ}
use Rattle.basics.specs.declared.Verdict.{Verdict}
use Rattle.basics.specs.Verdicts.{Gives}
use Rattle.capi.specs.Exports.{verdict_number, Exports}

pub exported : {v r : Verdict} {new old now : List ℕ} {n : ℕ} → Gives v new old r now → n ≡ verdict_number r → Exports v new old n now
exported g e = record { number = e ∙ ap verdict_number g.verdict; output = g.output }
