-- `put_second` meets its contract: in a block of zeros the set's columns stand alone, and D is added to them. Assumes nothing.
use Rattle.std.proofs.Common.{List, ℕ, ◌*◌, length, refl, sym, ap, ◌∙◌}
use Rattle.basics.specs.Bytes.{◌⊕◌}
use Rattle.basics.specs.Padding.{col_bytes}
use Rattle.basics.proofs.Bytes.{build_is}
use Rattle.words.specs.Code.{code_of}
use Rattle.construction.specs.Transfer.{chosen}
use Rattle.columns.proofs.Sizes.{k_of_lem}
use Rattle.buyer.specs.Prepare.{kept_columns}
use Rattle.buyer.proofs.Prepared.{set_alone, set_long}
use Rattle.buyer.proofs.preparing.Preparing.put_second.Goals as goal

pub add_chosen-requires : goal.add_chosen-requires
add_chosen-requires c =
    let s = c.args.self in
    let zeros = sym (build_is _ _ _ c.fill.ensures.len (λ p h. sym (c.fill.ensures.clones p 0 h refl))) in (
      c.requires.selected,
      ap length (set_alone s.seeded s.shape.mode s.shape.rows s.session.now s.second.now c.args.block.now c.requires.fits zeros c.add_columns.ensures)
          ∙ set_long s.seeded s.shape.mode s.shape.rows s.session.now s.second.now c.args.block.now c.requires.fits
          ∙ ap (λ (x : ℕ). x * col_bytes s.shape.rows) (k_of_lem s.shape.mode),
    )

pub returns : goal.returns
unfolding kept_columns
returns c =
    let s = c.args.self in
    let zeros = sym (build_is _ _ _ c.fill.ensures.len (λ p h. sym (c.fill.ensures.clones p 0 h refl))) in
    c.add_chosen.ensures
    ∙ ap (λ (x : List ℕ). x ⊕ chosen (code_of s.shape.mode) s.shape.rows s.selections.now)
    (set_alone s.seeded s.shape.mode s.shape.rows s.session.now s.second.now c.args.block.now c.requires.fits zeros c.add_columns.ensures)
