-- What the format's lemma asks for.
use Rattle.std.proofs.Common.{◌*◌, ◌+◌, ℕ, Some, ap, sym, subst, arith}
use Rattle.std.proofs.lemmas.Bool.{ltb-true}
use Rattle.vx_arrow_image.specs.declared.format.Format.TheVariants.{List as Lists}
use Rattle.vx_arrow_image.specs.Image.{part_of, size_of}
use Rattle.vx_arrow_columns.specs.Asked.{the_picking, the_picks}
use Rattle.vx_arrow_columns.specs.Taken.{AreOffsets}
use Rattle.vx_arrow_columns.proofs.Cuts.{cut_ordered}
use Rattle.vx_arrow_columns.proofs.OwnTaken.{counts, held_by}
use Rattle.vx_arrow_columns.proofs.PickReads.{length_picks}
use Rattle.vx_arrow_columns.proofs.Rooms.{offsets_as}
use Rattle.vx_arrow_columns.proofs.RowBytes.{bytes_by}
use Rattle.vx_arrow_columns.proofs.writing.write_list_node.Goals as goal

pub write_offsets-requires-clause-ordered : goal.write_offsets-requires-clause-ordered
write_offsets-requires-clause-ordered c = cut_ordered c.args.size (part_of c.args.node.now) _ _ (held_by (part_of c.args.node.now) _ (Some (Lists c.args.size)) c.requires.format.format c.requires.format.readable).1

pub write_offsets-requires-clause-counted : goal.write_offsets-requires-clause-counted
write_offsets-requires-clause-counted c = ltb-true _ _ (counts (part_of c.args.node.now) _ (Some (Lists c.args.size)) c.requires.format.format c.requires.format.readable.counted)

pub write_offsets-requires-clause-room : goal.write_offsets-requires-clause-room
write_offsets-requires-clause-room c =
    let ps = c.args.picks.now in
    let long = offsets_as (part_of c.args.node.now) (the_picking ps) (Some (Lists c.args.size)) _ c.requires.format.format c.requires.offsets in
    omega (arith, long, ap (λ (n : ℕ). size_of c.args.size * (n + 1)) (length_picks ps.places.now ps.valid.now ps.add))

pub returns : goal.returns
returns c x s =
    let ps = c.args.picks.now in
    let count = length_picks ps.places.now ps.valid.now ps.add in
    bytes_by (Some (Lists c.args.size)) (part_of c.args.node.now) (the_picking ps) _ _ x s c.requires.format.format c.write_valid_of.ensures.bits
    (subst (λ (n : ℕ). AreOffsets c.args.size (part_of c.args.node.now) (the_picks ps) n c.write_offsets.new.out) (sym count) c.write_offsets.ensures) tt tt
