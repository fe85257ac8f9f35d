-- `finished`: the blocks behind the whole ones are the padded message's last, one where the length fits behind the mark, two where not. Assumes nothing.
use Rattle.std.proofs.Common.{ℕ, ◌+◌, ◌*◌, ◌/◌, ◌%◌, ◌<◌, ◌≤◌, List, ◌++◌, length, take, sym, ap, ◌∙◌, arith}
use Rattle.symmetric.specs.Sha.{padded, be64, blocks}
use Rattle.symmetric.proofs.Sha.{blocks_more, marked_left, count_short, block_short, count_long, block_long, block_last}
use Rattle.symmetric.proofs.message.finished.Goals as goal

pub returns-then-fits : goal.returns-then-fits
returns-then-fits c =
    let m = c.args.input.now in
    let fits : length m % 64 < 56 = omega arith in
    let marked = marked_left m c.as_chunks.ensures.back c.marked-b.ensures in
    blocks_more (padded m) (length m / 64) c.whole-h.ensures c.compressed.ensures
    (c.put_size.ensures ∙ ap (λ (b : List ℕ). take 56 b ++ be64 (8 * length m)) marked ∙ block_short m fits)
    ∙ sym (ap (blocks (padded m)) (count_short m fits))

pub returns : goal.returns
returns c =
    let m = c.args.input.now in
    let full : 56 ≤ length m % 64 = omega arith in
    let marked = marked_left m c.as_chunks.ensures.back c.marked-b.ensures in
    let next = blocks_more (padded m) (length m / 64) c.whole-h.ensures c.compressed-2.ensures (marked ∙ block_long m full) in
    blocks_more (padded m) (length m / 64 + 1) next c.compressed-3.ensures (c.put_size-2.ensures ∙ block_last m full)
    ∙ sym (ap (blocks (padded m)) (count_long m full))
