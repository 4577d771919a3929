-- The places, and a bit for each.
use Rattle.std.proofs.Common.{ap, ◌*◌, length, sym, ℕ, ◌∙◌, arith}
use Rattle.vx_arrow_image.specs.Image.{part_of}
use Rattle.vx_arrow_columns.specs.Picks.{picks_of}
use Rattle.vx_arrow_columns.proofs.FixedLists.{item_there, items_are, width_some}
use Rattle.vx_arrow_columns.proofs.PickReads.{length_picks}
use Rattle.vx_arrow_columns.proofs.fixed_lists.fixed_items.Goals as goal

pub item_valid-requires : goal.item_valid-requires
item_valid-requires c = λ h. width_some c.args.node.now.width (length c.args.picks.now.places.now) 0 (omega (arith, c.requires.count))

pub returns-clause-items : goal.returns-clause-items
returns-clause-items c =
    let ps = c.args.picks.now in
    let p = part_of c.args.node.now in
    items_are p (picks_of ps.places.now ps.valid.now ps.add) c.args.count _ _ (c.requires.count ∙ ap (λ (n : ℕ). n * p.width) (sym (length_picks ps.places.now ps.valid.now ps.add))) c.in_ok-places.ensures.places
    (λ m h. c.in_ok-valid.ensures.bits m h ∙ sym (item_there p ps.places.now ps.valid.now ps.add m (omega (arith, c.requires.count))))
