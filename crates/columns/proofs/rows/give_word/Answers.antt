-- `give_word` meets its contract: one store more gives one row more its byte. Assumes nothing.
use Rattle.std.proofs.Common.{◌≡◌, refl, arith}
use Rattle.columns.proofs.Gathered.{given_more, given_end, row_at}
use Rattle.columns.proofs.rows.give_word.Goals as goal

pub loop-i-preserved : goal.loop-i-preserved
loop-i-preserved c =
    let a = c.args in
    given_more c.loop-i.invariant (omega arith) refl (omega (arith, row_at a.count a.width a.g c.loop-i.i (omega arith) (omega arith))) refl

pub returns : goal.returns
returns c =
    let all : c.loop-i.i ≡ c.args.count = omega arith in
    given_end (rw all at c.loop-i.invariant) (omega arith) (omega arith)
