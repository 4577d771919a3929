-- There are items for all lists, and their places.
use Rattle.std.proofs.Common.{◌≡◌, ◌<◌, ◌≤◌, ◌+◌, ◌*◌, ◌^◌, get_or, length, refl, arith}
use Rattle.vx_arrow_image.specs.declared.format.Format.TheVariants.{FixedList}
use Rattle.vx_arrow_image.specs.Image.{part_of, parts_of}
use Rattle.vx_arrow_columns.specs.Asked.{the_picks}
use Rattle.vx_arrow_columns.specs.Planned.{child_lens}
use Rattle.vx_arrow_columns.proofs.Lacking.{many_wide, node_lack}
use Rattle.vx_arrow_columns.proofs.Measures.{fixed_list_measured, one_len}
use Rattle.vx_arrow_columns.proofs.PickReads.{placed_end}
use Rattle.vx_arrow_columns.proofs.measuring.measure_fixed_list.Goals as goal

pub overflow_add-node : goal.overflow_add-node
overflow_add-node c = let end = placed_end (part_of c.args.node.now) c.requires.placed in omega arith

pub fixed_items-requires-clause-end : goal.fixed_items-requires-clause-end
fixed_items-requires-clause-end c = omega (arith, c.in-Some.ensures.1, c.if-end.false)

pub returns-clause-measured : goal.returns-clause-measured
returns-clause-measured c =
    let ps = c.args.picks.now in
    let node = c.args.node.now in
    let held : (node.offset + node.len) * node.width < 2 ^ 60 = omega (arith, c.in-Some.ensures.1, c.if-end.false) in
    let size : c.in-Some-checked_mul.count ≡ length ps.places.now * node.width = c.in-Some-checked_mul.ensures.1 in
    fixed_list_measured (part_of node) ps.places.now ps.valid.now ps.add c.in-Some-checked_mul.count _ c.requires.format c.requires.few c.requires.placed c.requires.within (omega arith) held size (omega (arith, c.if-count.false))
    c.in_ok-list.ensures.items c.in_ok-list.ensures.nullable c.in-Some.ensures.1

pub returns-then-end-first_len-clause-fault : goal.returns-then-end-first_len-clause-fault
returns-then-end-first_len-clause-fault c =
    let p = part_of c.args.node.now in
    let nodes = c.args.behind.now in
    let lens = child_lens p (parts_of nodes) in
    node_lack p (the_picks c.args.picks.now) lens FixedList c.requires.format (λ h b.
    let low : (p.offset + p.len) * p.width ≤ get_or lens 0 0 = b in
    omega (arith, one_len p nodes h.0, c.first_len.ensures, c.in-Some.ensures.1, c.if-end-first_len.true))

pub returns-in_default-checked_mul-clause-fault : goal.returns-in_default-checked_mul-clause-fault
returns-in_default-checked_mul-clause-fault c = let ps = c.args.picks.now in many_wide (part_of c.args.node.now) ps.places.now ps.valid.now ps.add FixedList c.args.node.now.width (2 ^ 60) c.requires.format refl (omega (arith, c.in_default-checked_mul.ensures))

pub returns-then-count-clause-fault : goal.returns-then-count-clause-fault
returns-then-count-clause-fault c = let ps = c.args.picks.now in many_wide (part_of c.args.node.now) ps.places.now ps.valid.now ps.add FixedList c.args.node.now.width (2 ^ 60) c.requires.format refl (omega (arith, c.in-Some-checked_mul.ensures.1, c.if-count.true))
