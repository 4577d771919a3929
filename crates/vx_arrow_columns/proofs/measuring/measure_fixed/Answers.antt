-- There is a value for each row.
use Rattle.std.proofs.Common.{◌≡◌, ◌≤◌, ◌+◌, ◌*◌, length, arith}
use Rattle.vx_arrow_image.specs.declared.format.Format.TheVariants.{Fixed}
use Rattle.vx_arrow_image.specs.Image.{part_of}
use Rattle.vx_arrow_columns.proofs.Lacking.{leaf_faults, many_at}
use Rattle.vx_arrow_columns.proofs.Measures.{fixed_at, ok_weaker}
use Rattle.vx_arrow_columns.proofs.PickReads.{placed_end}
use Rattle.vx_arrow_columns.proofs.measuring.measure_fixed.Goals as goal

pub overflow_add-node : goal.overflow_add-node
overflow_add-node c = let end = placed_end (part_of c.args.node.now) c.requires.placed in omega arith

pub returns-clause-measured : goal.returns-clause-measured
returns-clause-measured c =
    let node = c.args.node.now in
    let held : (node.offset + node.len) * node.width ≤ length node.values.now = omega (arith, c.in-Some.ensures.1, c.if-held-node.false) in
    let size : c.in-Some-checked_mul.values ≡ c.args.count * node.width = c.in-Some-checked_mul.ensures.1 in
    ok_weaker _ _ c.leaf.result (λ m l. fixed_at (part_of node) c.args.count c.in-Some-checked_mul.values m c.requires.format c.requires.few c.requires.placed held size (omega arith) l) c.leaf.ensures.leaf

pub returns-clause-fault : goal.returns-clause-fault
returns-clause-fault c = leaf_faults (part_of c.args.node.now) c.args.count Fixed c.leaf.result c.requires.format (λ ps vs add h. h.0) c.leaf.ensures.fault

pub returns-in_default-checked_mul-clause-fault : goal.returns-in_default-checked_mul-clause-fault
returns-in_default-checked_mul-clause-fault c ps vs add e = many_at (part_of c.args.node.now) ps vs add c.args.count c.requires.format e (omega (arith, c.in_default-checked_mul.ensures))

pub returns-then-values-clause-fault : goal.returns-then-values-clause-fault
returns-then-values-clause-fault c ps vs add e = many_at (part_of c.args.node.now) ps vs add c.args.count c.requires.format e (omega (arith, c.in-Some-checked_mul.ensures.1, c.if-values.true))
