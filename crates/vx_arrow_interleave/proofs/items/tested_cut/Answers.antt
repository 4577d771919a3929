-- What was tested.
use Rattle.std.proofs.Common.{◌<◌, ◌+◌, arith}
use Rattle.vx_arrow_image.specs.Image.{limit_of, offset_at, part_of}
use Rattle.vx_arrow_image.proofs.CutRows.{cut_from}
use Rattle.vx_arrow_interleave.specs.Cuts.{room_of}
use Rattle.vx_arrow_interleave.proofs.SpotItems.{in_list, in_text}
use Rattle.vx_arrow_interleave.proofs.items.tested_cut.Goals as goal

pub returns-else-cut-node-clause-cut : goal.returns-else-cut-node-clause-cut
returns-else-cut-node-clause-cut c =
    let z = c.args.size in
    let p = part_of c.args.node.now in
    let low = c.cut_at-cut.ensures.start in
    let high = c.cut_at-cut.ensures.end in
    let end = offset_at z p.offsets (c.args.i + 1) in
    cut_from z p (room_of c.args.texts z p) c.args.i (omega (arith, low, high, c.if-cut.false)) (omega (arith, high, c.limit.ensures, c.if-cut-limit.false))
    (in_text c.args.texts z p end c.if-texts.true (omega (arith, high, c.if-cut-node.false)))

pub returns-else-texts-clause-cut : goal.returns-else-texts-clause-cut
returns-else-texts-clause-cut c =
    let z = c.args.size in
    let p = part_of c.args.node.now in
    let low = c.cut_at-cut.ensures.start in
    let high = c.cut_at-cut.ensures.end in
    let end = offset_at z p.offsets (c.args.i + 1) in
    let small : end < limit_of z = omega (arith, high, c.limit.ensures, c.if-cut-limit.false) in
    cut_from z p (room_of c.args.texts z p) c.args.i (omega (arith, low, high, c.if-cut.false)) small
    (in_list c.args.texts z p end c.if-texts.false small)
