-- `add_chosen` meets its contract: what eight rows give to byte b of each column is D's. Assumes nothing.
use Rattle.std.proofs.Common.{◌*◌, ℕ, ap, ◌∙◌, arith}
use Rattle.words.specs.Code.{k, code_of}
use Rattle.buyer.specs.Chosen.{place_byte, added_bytes}
use Rattle.buyer.proofs.Chosen.{below_more, below_end, chosen_at}
use Rattle.buyer.proofs.choosing.add_chosen.Goals as goal

pub loop-b-preserved : goal.loop-b-preserved
loop-b-preserved c =
    let a = c.args in
    let b = c.loop-b.b in
    let f : ℕ → ℕ = place_byte (code_of a.mode) a.selections.now (b * 8) in
    below_more f c.loop-b.invariant (c.add_eight.ensures ∙ ap (λ (x : ℕ). added_bytes x b f c.loop-b.block) c.column_bytes-c.ensures)
    (λ p h e. chosen_at a.mode a.rows a.selections.now c.requires.0 b p (omega (arith, c.requires.1)) e)

pub returns : goal.returns
returns c = below_end (k (code_of c.args.mode)) c.loop-b.invariant (omega (arith, c.column_bytes-c.ensures)) c.requires.1
