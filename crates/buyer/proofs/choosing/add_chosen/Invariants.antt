-- `add_chosen`: D was added to the columns' bytes below b.
use Rattle.basics.specs.Padding.{col_bytes}
use Rattle.words.specs.Code.{code_of}
use Rattle.construction.specs.Transfer.{chosen}
use Rattle.buyer.proofs.Chosen.{Below}
use Rattle.buyer.proofs.choosing.add_chosen.Given as goal

abbrev pub invariant-loop-b : goal.invariant-loop-b
invariant-loop-b l = Below (chosen (code_of l.mode) l.rows l.selections) (col_bytes l.rows) l.b l.initial.block l.block
