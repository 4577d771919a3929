-- There is a view for each row.
use Rattle.std.proofs.Common.{◌*◌, ◌^◌, length, refl, arith}
use Rattle.vx_arrow_image.specs.declared.format.Format.TheVariants.{TextView}
use Rattle.vx_arrow_image.specs.Image.{part_of}
use Rattle.vx_arrow_columns.specs.Asked.{the_picks}
use Rattle.vx_arrow_columns.proofs.Lacking.{many_by}
use Rattle.vx_arrow_columns.proofs.Measures.{text_view_measured}
use Rattle.vx_arrow_columns.proofs.PickReads.{length_picks, placed_end}
use Rattle.vx_arrow_columns.proofs.measuring.measure_text_view.Goals as goal

pub overflow_add-node : goal.overflow_add-node
overflow_add-node c = let end = placed_end (part_of c.args.node.now) c.requires.placed in omega arith

pub overflow_mul-node : goal.overflow_mul-node
overflow_mul-node c = let end = placed_end (part_of c.args.node.now) c.requires.placed in omega arith

pub returns-clause-measured : goal.returns-clause-measured
returns-clause-measured c =
    let ps = c.args.picks.now in
    let node = c.args.node.now in
    text_view_measured (part_of node) ps.places.now ps.valid.now ps.add _ c.requires.format c.requires.few c.requires.placed c.requires.within (omega arith) refl (omega arith)

pub returns-then-values-clause-fault : goal.returns-then-values-clause-fault
returns-then-values-clause-fault c =
    let ps = c.args.picks.now in
    let p = part_of c.args.node.now in
    many_by p (the_picks ps) TextView (16 * length (the_picks ps)) (2 ^ 63) c.requires.format refl (omega (arith, length_picks ps.places.now ps.valid.now ps.add))
