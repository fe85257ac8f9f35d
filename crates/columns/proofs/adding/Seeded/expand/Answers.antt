-- `Seeded::expand` meets its contract: the bytes before the last hold rows alone, and the last loses its padding. Assumes nothing.
use Rattle.std.proofs.Common.{ℕ, ◌-◌, ◌*◌, ◌%◌, ◌^◌, get_or, ap, ◌∙◌, arith}
use Rattle.columns.proofs.Sets.{column_in}
use Rattle.columns.proofs.adding.Seeded.expand.Goals as goal

pub returns : goal.returns
returns c p h =
    let s = c.args.self.now in
    let last = c.column_bytes-c.result - 1 in
    column_in s.rows c.column_bytes-c.result _ c.args.seed.now s.session.now _ (omega arith) (omega arith) c.column_bytes-c.ensures c.keystream.array_long
    c.keystream.ensures (c.low_bits.ensures ∙ ap (λ (m : ℕ). get_or c.keystream.new.work last 0 % 2 ^ (m - last * 8)) c.from-m.ensures) p (omega arith)
