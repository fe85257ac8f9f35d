-- `add_eight` meets its contract: the table holds what the eight rows give to each column. Assumes nothing.
use Rattle.std.proofs.Common.{◌*◌, ℕ, sym, ap, ◌∙◌}
use Rattle.words.specs.Code.{k, code_of}
use Rattle.buyer.specs.Chosen.{place_byte}
use Rattle.buyer.proofs.Chosen.{begins_at, added_ext, places_from}
use Rattle.columns.proofs.Sizes.{k_of_lem}
use Rattle.buyer.proofs.choosing.add_eight.Goals as goal

pub add_table-requires : goal.add_table-requires
add_table-requires c =
    let n = c.columns_of.ensures in
    (c.requires.0, c.requires.1, n.high, c.requires.3 ∙ sym (ap (λ (x : ℕ). x * c.args.c) (n.is ∙ k_of_lem c.args.mode)))

pub returns : goal.returns
returns c =
    let a = c.args in
    c.add_table.ensures
    ∙ added_ext a.c a.b (k (code_of a.mode)) _ (place_byte (code_of a.mode) a.selections.now (a.b * 8)) a.block.now c.requires.3
    (λ i h. begins_at c.fill_table.ensures i h ∙ places_from (code_of a.mode) a.selections.now (a.b * 8) i)
