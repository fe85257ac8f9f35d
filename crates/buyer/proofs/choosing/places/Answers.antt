-- `places` meets its contract: each row's place stands above those of the rows before it. Assumes nothing.
use Rattle.std.proofs.Common.{refl, arith}
use Rattle.basics.specs.Bytes.{pack}
use Rattle.words.specs.Code.{code_of}
use Rattle.buyer.proofs.Chosen.{place_more, place_fits, places_all}
use Rattle.buyer.proofs.choosing.places.Goals as goal

pub loop-e-init : goal.loop-e-init
unfolding pack
loop-e-init c = refl

pub overflow_add-byte : goal.overflow_add-byte
overflow_add-byte c =
    let a = c.args in
    omega (arith, place_fits (code_of a.mode) a.rows.now a.i c.loop-e.e c.loop-e.invariant c.loop-e-test.true c.place_of.ensures.1)

pub loop-e-preserved : goal.loop-e-preserved
loop-e-preserved c =
    let a = c.args in
    (place_more (code_of a.mode) a.rows.now a.i c.loop-e.e c.loop-e.invariant c.loop-e-test.true c.byte_or_zero.ensures c.place_of.ensures.0).0

pub returns : goal.returns
returns c =
    let a = c.args in
    places_all (code_of a.mode) a.rows.now a.i c.loop-e.invariant (omega arith)
