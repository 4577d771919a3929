-- The tests, in order.
use Rattle.std.proofs.Common.{◌∙◌, get_or, refl, arith}
use Rattle.vx_arrow_image.specs.Image.{child_of, ids_of, part_of}
use Rattle.vx_arrow_image.proofs.DenseTests.{dense_astray, dense_far, dense_is, dense_last}
use Rattle.vx_arrow_image.proofs.dense.is_dense.Goals as goal

pub returns-then-start-limit : goal.returns-then-start-limit
returns-then-start-limit c =
    let p = part_of c.args.node.now in
    let k = child_of (ids_of p) (get_or p.values c.args.i 0) in
    dense_far c.args.lens.now c.offset-start.result k (omega (arith, c.limit.ensures)) ∙ dense_is p c.args.lens.now c.args.i c.offset-start.result k c.offset-start.ensures refl

pub returns-then-child-lens : goal.returns-then-child-lens
returns-then-child-lens c = dense_astray c.args.lens.now c.offset-start.result c.child_of-child.result (omega arith) ∙ dense_is (part_of c.args.node.now) c.args.lens.now c.args.i c.offset-start.result c.child_of-child.result c.offset-start.ensures c.child_of-child.ensures

pub returns : goal.returns
returns c = dense_last c.args.lens.now c.offset-start.result c.child_of-child.result (omega (arith, c.limit.ensures)) ∙ dense_is (part_of c.args.node.now) c.args.lens.now c.args.i c.offset-start.result c.child_of-child.result c.offset-start.ensures c.child_of-child.ensures
