-- No values are needed.
use Rattle.vx_arrow_image.specs.declared.format.Format.TheVariants.{Nulls}
use Rattle.vx_arrow_image.specs.Image.{part_of}
use Rattle.vx_arrow_columns.specs.Asked.{the_picks}
use Rattle.vx_arrow_columns.proofs.Lacking.{leaf_fault}
use Rattle.vx_arrow_columns.proofs.Measures.{nulls_measured, ok_weaker}
use Rattle.vx_arrow_columns.proofs.measuring.measure_nulls.Goals as goal

pub returns-clause-measured : goal.returns-clause-measured
returns-clause-measured c = let ps = c.args.picks.now in ok_weaker _ _ c.leaf.result (λ m l. nulls_measured (part_of c.args.node.now) ps.places.now ps.valid.now ps.add m c.requires.format c.requires.few c.requires.placed c.requires.within l) c.leaf.ensures.leaf

pub returns-clause-fault : goal.returns-clause-fault
returns-clause-fault c = leaf_fault (part_of c.args.node.now) (the_picks c.args.picks.now) Nulls c.leaf.result c.requires.format (λ h. h) c.leaf.ensures.fault
