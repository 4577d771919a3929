-- What the format's lemma asks for.
use Rattle.std.proofs.Common.{◌*◌, ◌+◌, ℕ, Some, ap, sym, subst, arith}
use Rattle.std.proofs.lemmas.Bool.{ltb-true}
use Rattle.vx_arrow_image.specs.declared.format.Format.TheVariants.{Text}
use Rattle.vx_arrow_image.specs.Image.{part_of, size_of}
use Rattle.vx_arrow_columns.specs.Asked.{the_picking, the_picks}
use Rattle.vx_arrow_columns.specs.Taken.{AreOffsets}
use Rattle.vx_arrow_columns.proofs.OwnTaken.{counts, held_by}
use Rattle.vx_arrow_columns.proofs.PickReads.{length_picks}
use Rattle.vx_arrow_columns.proofs.Rooms.{offsets_as, values_as}
use Rattle.vx_arrow_columns.proofs.RowBytes.{bytes_by}
use Rattle.vx_arrow_columns.proofs.writing.write_text_node.Goals as goal

pub write_texts-requires-clause-cut : goal.write_texts-requires-clause-cut
write_texts-requires-clause-cut c = (held_by (part_of c.args.node.now) _ (Some (Text c.args.size)) c.requires.format.format c.requires.format.readable).1

pub write_texts-requires-clause-counted : goal.write_texts-requires-clause-counted
write_texts-requires-clause-counted c = ltb-true _ _ (counts (part_of c.args.node.now) _ (Some (Text c.args.size)) c.requires.format.format c.requires.format.readable.counted)

pub write_texts-requires-clause-ends : goal.write_texts-requires-clause-ends
write_texts-requires-clause-ends c =
    let ps = c.args.picks.now in
    let long = offsets_as (part_of c.args.node.now) (the_picking ps) (Some (Text c.args.size)) _ c.requires.format.format c.requires.offsets in
    omega (arith, long, ap (λ (n : ℕ). size_of c.args.size * (n + 1)) (length_picks ps.places.now ps.valid.now ps.add))

pub write_texts-requires-clause-room : goal.write_texts-requires-clause-room
write_texts-requires-clause-room c = let long = values_as (part_of c.args.node.now) (the_picking c.args.picks.now) (Some (Text c.args.size)) _ c.requires.format.format c.requires.values in omega (arith, long)

pub returns : goal.returns
returns c s =
    let ps = c.args.picks.now in
    let count = length_picks ps.places.now ps.valid.now ps.add in
    bytes_by (Some (Text c.args.size)) (part_of c.args.node.now) (the_picking ps) _ _ _ s c.requires.format.format c.write_valid_of.ensures.bits
    (subst (λ (n : ℕ). AreOffsets c.args.size (part_of c.args.node.now) (the_picks ps) n c.write_texts.new.offsets) (sym count) c.write_texts.ensures.offsets) c.write_texts.ensures.texts tt
