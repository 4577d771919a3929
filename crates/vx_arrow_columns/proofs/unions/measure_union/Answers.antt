-- There is an id for each row, and it is that of a child.
use Rattle.std.proofs.Common.{refl, sym}
use Rattle.vx_arrow_image.specs.Image.{part_of}
use Rattle.vx_arrow_columns.proofs.Measures.{union_measured}
use Rattle.vx_arrow_columns.proofs.PickReads.{placed_end}
use Rattle.vx_arrow_columns.proofs.unions.measure_union.Goals as goal

pub holds_ids-requires : goal.holds_ids-requires
holds_ids-requires c = placed_end (part_of c.args.node.now) c.requires.placed

pub returns-clause-measured : goal.returns-clause-measured
returns-clause-measured c =
    let ps = c.args.picks.now in
    union_measured (part_of c.args.node.now) ps.places.now ps.valid.now ps.add _ c.requires.format c.requires.few c.requires.placed c.requires.within (sym c.if-not-holds_ids.ensures) (c.if-not-are_tagged.ensures.all refl) refl
