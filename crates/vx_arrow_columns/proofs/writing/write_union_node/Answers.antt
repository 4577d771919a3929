-- The ids of the rows and of the children.
use Rattle.std.proofs.Common.{◌≡◌, ◌+◌, ℕ, length, take, drop, Some, ap, sym, ◌∙◌, refl, subst, arith}
use Rattle.std.proofs.lemmas.List.{length-take-le, take_at}
use Rattle.vx_arrow_image.specs.declared.format.Format.TheVariants.{Union}
use Rattle.vx_arrow_image.specs.Image.{part_of}
use Rattle.vx_arrow_image.proofs.SoundNodes.{has_ids}
use Rattle.vx_arrow_columns.specs.Asked.{the_picking}
use Rattle.vx_arrow_columns.specs.Taken.{AreTagged}
use Rattle.vx_arrow_columns.proofs.OwnTaken.{held_by}
use Rattle.vx_arrow_columns.proofs.PickReads.{length_picks}
use Rattle.vx_arrow_columns.proofs.Rooms.{values_as}
use Rattle.vx_arrow_columns.proofs.RowBytes.{bytes_by, no_bits_by}
use Rattle.vx_arrow_columns.proofs.writing.write_union_node.Goals as goal

pub write_ids-requires-clause-room : goal.write_ids-requires-clause-room
write_ids-requires-clause-room c =
    let p = (part_of c.args.node.now) in
    let q = (the_picking c.args.picks.now) in
    let values = values_as p q (Some Union) _ c.requires.format.format c.requires.values in
    omega (arith, length_picks c.args.picks.now.places.now c.args.picks.now.valid.now c.args.picks.now.add)

pub returns : goal.returns
returns c v o =
    let p = part_of c.args.node.now in
    let q = the_picking c.args.picks.now in
    let ps = c.args.picks.now in
    let has = has_ids p (held_by p q.picks (Some Union) c.requires.format.format c.requires.format.readable).0 in
    let n = c.args.node.now.children in
    let sizes_now = c.args.node.now.sizes.now in
    let size : length (take n sizes_now) ≡ n = length-take-le n sizes_now has.ids in
    let own : take n c.put_bytes.new.bytes ≡ take n sizes_now =
    ap (take n) c.put_bytes.ensures ∙ take_at (take n sizes_now) (drop (0 + length (take n sizes_now)) c.args.sizes.now) n size in
    let count = length_picks ps.places.now ps.valid.now ps.add in
    let ids = subst (λ (m : ℕ). AreTagged p q.picks m c.write_ids.new.out) (sym count) c.write_ids.ensures in
    bytes_by (Some Union) p q v o _ _ c.requires.format.format (no_bits_by p q (Some Union) c.requires.format.format (λ b. refl) v) tt ids own
