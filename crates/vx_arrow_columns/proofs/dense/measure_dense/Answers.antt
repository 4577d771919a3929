-- There is an id and an offset for each row, and the id is that of a child.
use Rattle.std.proofs.Common.{arith, ◌^◌, length, refl, sym}
use Rattle.vx_arrow_image.specs.declared.format.Format.TheVariants.{DenseUnion}
use Rattle.vx_arrow_image.specs.Image.{part_of}
use Rattle.vx_arrow_columns.specs.Picks.{picks_of}
use Rattle.vx_arrow_columns.proofs.Lacking.{many_by}
use Rattle.vx_arrow_columns.proofs.Measures.{dense_measured}
use Rattle.vx_arrow_columns.proofs.PickReads.{length_picks, placed_end}
use Rattle.vx_arrow_columns.proofs.dense.measure_dense.Goals as goal

pub holds_ids-requires : goal.holds_ids-requires
holds_ids-requires c = placed_end (part_of c.args.node.now) c.requires.placed

pub holds_starts-requires : goal.holds_starts-requires
holds_starts-requires c = placed_end (part_of c.args.node.now) c.requires.placed

pub returns-clause-measured : goal.returns-clause-measured
returns-clause-measured c =
    let ps = c.args.picks.now in
    dense_measured (part_of c.args.node.now) ps.places.now ps.valid.now ps.add _ c.in_ok-items.items.items _ c.requires.format c.requires.few c.requires.placed c.requires.within (sym c.if-not-holds_ids.ensures) (sym c.if-not-holds_starts.ensures)
    (c.if-not-are_tagged.ensures.all refl) refl (omega arith) c.in_ok-items.ensures.items (refl, c.requires.format, c.in_ok-items.ensures.items) (λ lens h. h)

pub returns-then-picks-clause-fault : goal.returns-then-picks-clause-fault
returns-then-picks-clause-fault c =
    let ps = c.args.picks.now in
    let q = picks_of ps.places.now ps.valid.now ps.add in
    many_by (part_of c.args.node.now) q DenseUnion (length q) (2 ^ 31) c.requires.format refl (omega (arith, length_picks ps.places.now ps.valid.now ps.add, c.if-picks.true))
