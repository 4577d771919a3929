-- The ids of the rows and of the children, and where the rows stand.
use Rattle.std.proofs.Common.{◌≡◌, ◌+◌, ℕ, length, take, drop, Some, ap, sym, ◌∙◌, refl, subst, arith}
use Rattle.std.proofs.lemmas.Bool.{ltb-true}
use Rattle.std.proofs.lemmas.List.{length-take-le, take_at}
use Rattle.vx_arrow_image.specs.declared.format.Format.TheVariants.{DenseUnion}
use Rattle.vx_arrow_image.specs.Image.{part_of}
use Rattle.vx_arrow_image.proofs.SoundNodes.{has_ids}
use Rattle.vx_arrow_columns.specs.Asked.{the_picking}
use Rattle.vx_arrow_columns.specs.Taken.{AreDense, AreTagged}
use Rattle.vx_arrow_columns.proofs.RowBytes.{bytes_by, no_bits_by}
use Rattle.vx_arrow_columns.proofs.OwnTaken.{counts, held_by}
use Rattle.vx_arrow_columns.proofs.PickReads.{length_picks}
use Rattle.vx_arrow_columns.proofs.Rooms.{offsets_as, values_as}
use Rattle.vx_arrow_columns.proofs.writing.write_dense_node.Goals as goal

pub write_ids-requires-clause-held : goal.write_ids-requires-clause-held
write_ids-requires-clause-held c = (held_by (part_of c.args.node.now) _ (Some DenseUnion) c.requires.format.format c.requires.format.readable).0

pub write_ids-requires-clause-room : goal.write_ids-requires-clause-room
write_ids-requires-clause-room c =
    let p = part_of c.args.node.now in
    let q = the_picking c.args.picks.now in
    let values = values_as p q (Some DenseUnion) _ c.requires.format.format c.requires.values in
    omega (arith, length_picks c.args.picks.now.places.now c.args.picks.now.valid.now c.args.picks.now.add)

pub write_starts-requires-clause-held : goal.write_starts-requires-clause-held
write_starts-requires-clause-held c = (held_by (part_of c.args.node.now) _ (Some DenseUnion) c.requires.format.format c.requires.format.readable).0

pub write_starts-requires-clause-tagged : goal.write_starts-requires-clause-tagged
write_starts-requires-clause-tagged c = (held_by (part_of c.args.node.now) _ (Some DenseUnion) c.requires.format.format c.requires.format.readable).2

pub write_starts-requires-clause-few : goal.write_starts-requires-clause-few
write_starts-requires-clause-few c =
    let few = ltb-true _ _ (counts (part_of c.args.node.now) _ (Some DenseUnion) c.requires.format.format c.requires.format.readable.counted) in
    omega (arith, length_picks c.args.picks.now.places.now c.args.picks.now.valid.now c.args.picks.now.add)

pub write_starts-requires-clause-room : goal.write_starts-requires-clause-room
write_starts-requires-clause-room c =
    let p = part_of c.args.node.now in
    let q = the_picking c.args.picks.now in
    let offsets = offsets_as p q (Some DenseUnion) _ c.requires.format.format c.requires.offsets in
    omega (arith, length_picks c.args.picks.now.places.now c.args.picks.now.valid.now c.args.picks.now.add)

pub returns : goal.returns
returns c v =
    let p = part_of c.args.node.now in
    let q = the_picking c.args.picks.now in
    let ps = c.args.picks.now in
    let has = has_ids p (held_by p q.picks (Some DenseUnion) c.requires.format.format c.requires.format.readable).0 in
    let n = c.args.node.now.children in
    let sizes_now = c.args.node.now.sizes.now in
    let size : length (take n sizes_now) ≡ n = length-take-le n sizes_now has.ids in
    let own : take n c.put_bytes.new.bytes ≡ take n sizes_now =
    ap (take n) c.put_bytes.ensures ∙ take_at (take n sizes_now) (drop (0 + length (take n sizes_now)) c.args.sizes.now) n size in
    let count = length_picks ps.places.now ps.valid.now ps.add in
    let ids = subst (λ (m : ℕ). AreTagged p q.picks m c.write_ids.new.out) (sym count) c.write_ids.ensures in
    let starts = subst (λ (m : ℕ). AreDense p q.picks m c.write_starts.new.out) (sym count) c.write_starts.ensures in
    bytes_by (Some DenseUnion) p q v _ _ _ c.requires.format.format (no_bits_by p q (Some DenseUnion) c.requires.format.format (λ b. refl) v) starts ids own
