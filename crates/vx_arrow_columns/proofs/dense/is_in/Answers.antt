-- The child of an id has that id.
use Rattle.std.proofs.Common.{ap, eqb, ◌∙◌, arith}
use Rattle.vx_arrow_image.specs.Image.{part_of}
use Rattle.vx_arrow_image.proofs.SoundNodes.{has_ids}
use Rattle.vx_arrow_columns.specs.Picks.{pick_at}
use Rattle.vx_arrow_columns.proofs.DenseItems.{is_in_child, not_in_child}
use Rattle.vx_arrow_columns.proofs.dense.is_in.Goals as goal

pub bounds-node-j : goal.bounds-node-j
bounds-node-j c = let has = has_ids (part_of c.args.node.now) c.requires.held in omega (arith, has.ids, c.requires.child)

pub returns-then-id-own : goal.returns-then-id-own
returns-then-id-own c =
    let p = part_of c.args.node.now in
    let ps = c.args.picks.now in
    let has = has_ids p c.requires.held in
    not_in_child p (pick_at ps.places.now ps.valid.now ps.add c.args.k) c.id_at-id.result c.args.j has.some has.ids c.id_at-id.ensures c.requires.child c.if-id-own.true

pub returns : goal.returns
returns c =
    let p = part_of c.args.node.now in
    let ps = c.args.picks.now in
    let has = has_ids p c.requires.held in
    ap (λ n. eqb n c.args.j) c.child_of.ensures ∙ is_in_child p (pick_at ps.places.now ps.valid.now ps.add c.args.k) c.id_at-id.result c.args.j has.some has.ids c.id_at-id.ensures
