-- There is a bit for each row.
use Rattle.std.proofs.Common.{◌≡◌, ◌≤◌, ◌+◌, ◌*◌, ◌/◌, length, arith}
use Rattle.vx_arrow_image.specs.declared.format.Format.TheVariants.{Bits}
use Rattle.vx_arrow_image.specs.Image.{part_of}
use Rattle.vx_arrow_columns.specs.Asked.{the_picks}
use Rattle.vx_arrow_columns.proofs.Lacking.{leaf_fault}
use Rattle.vx_arrow_columns.proofs.Measures.{bits_measured, ok_weaker}
use Rattle.vx_arrow_columns.proofs.PickReads.{placed_end}
use Rattle.vx_arrow_columns.proofs.measuring.measure_bits.Goals as goal

pub overflow_add-node : goal.overflow_add-node
overflow_add-node c = let end = placed_end (part_of c.args.node.now) c.requires.placed in omega arith

pub returns-clause-measured : goal.returns-clause-measured
returns-clause-measured c =
    let ps = c.args.picks.now in
    let node = c.args.node.now in
    let held : node.offset + node.len ≤ 8 * length node.values.now = omega arith in
    let size : c.div_ceil-values.result ≡ (length ps.places.now + 7) / 8 = omega arith in
    ok_weaker _ _ c.leaf.result (λ m l. bits_measured (part_of node) ps.places.now ps.valid.now ps.add c.div_ceil-values.result m c.requires.format c.requires.few c.requires.placed c.requires.within held size l) c.leaf.ensures.leaf

pub returns-clause-fault : goal.returns-clause-fault
returns-clause-fault c = leaf_fault (part_of c.args.node.now) (the_picks c.args.picks.now) Bits c.leaf.result c.requires.format (λ h. h.0) c.leaf.ensures.fault
