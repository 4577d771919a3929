-- The sums fit, since the row is valid.
use Rattle.std.proofs.Common.{sym, arith}
use Rattle.vx_arrow_image.specs.Image.{part_of}
use Rattle.vx_arrow_columns.proofs.FixedLists.{item_fits, item_none, item_some}
use Rattle.vx_arrow_columns.proofs.fixed_lists.item_at.Goals as goal

pub returns-then-not-is_there : goal.returns-then-not-is_there
returns-then-not-is_there c =
    let ps = c.args.picks.now in
    item_none (part_of c.args.node.now) ps.places.now ps.valid.now ps.add c.args.m c.requires.index (sym c.if-not-is_there.ensures)

pub overflow_add-row : goal.overflow_add-row
overflow_add-row c = let n = c.args.node.now in let ps = c.args.picks.now in let f = item_fits n.offset n.len n.width ps.places.now ps.valid.now ps.add c.args.m c.requires.width c.requires.index c.requires.within c.requires.end (sym c.if-not-is_there.ensures) in let end = c.requires.end in omega (arith, f.row, f.small, f.next, f.rest)

pub overflow_add-row-2 : goal.overflow_add-row-2
overflow_add-row-2 c = let n = c.args.node.now in let ps = c.args.picks.now in let f = item_fits n.offset n.len n.width ps.places.now ps.valid.now ps.add c.args.m c.requires.width c.requires.index c.requires.within c.requires.end (sym c.if-not-is_there.ensures) in let end = c.requires.end in omega (arith, f.row, f.small, f.next, f.rest)

pub overflow_mul-result : goal.overflow_mul-result
overflow_mul-result c = let n = c.args.node.now in let ps = c.args.picks.now in let f = item_fits n.offset n.len n.width ps.places.now ps.valid.now ps.add c.args.m c.requires.width c.requires.index c.requires.within c.requires.end (sym c.if-not-is_there.ensures) in let end = c.requires.end in omega (arith, f.row, f.small, f.next, f.rest)

pub overflow_add-result : goal.overflow_add-result
overflow_add-result c = let n = c.args.node.now in let ps = c.args.picks.now in let f = item_fits n.offset n.len n.width ps.places.now ps.valid.now ps.add c.args.m c.requires.width c.requires.index c.requires.within c.requires.end (sym c.if-not-is_there.ensures) in let end = c.requires.end in omega (arith, f.row, f.small, f.next, f.rest)

pub returns : goal.returns
returns c =
    let ps = c.args.picks.now in
    item_some (part_of c.args.node.now) ps.places.now ps.valid.now ps.add c.args.m c.requires.index (sym c.if-not-is_there.ensures)
