-- `twenty_rounds`: after so many turns the state is that of as many double rounds.
use Rattle.std.proofs.Common.{◌≡◌}
use Rattle.symmetric.specs.ChaCha.{double_rounds}
use Rattle.symmetric.specs.Values.{cells}
use Rattle.symmetric.proofs.cipher.Grid.twenty_rounds.Given as goal

abbrev pub invariant-loop : goal.invariant-loop
invariant-loop l = cells l.v ≡ double_rounds (cells l.initial.v) l.counter
