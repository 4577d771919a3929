-- One row after the other.
use Rattle.std.proofs.Common.{◌<◌, length, sym, ◌∙◌, arith}
use Rattle.vx_column.proofs.Tags.{rows-by}
use Rattle.vx_column.proofs.union_check.have_rows.Goals as goal

pub returns-then-not-has_row : goal.returns-then-not-has_row
returns-then-not-has_row c =
    let here : c.loop-i.i < length c.args.type_ids.now.rows = omega (arith, c.loop-i-test.true, c.len-i-end.ensures) in
    sym (c.loop-i.invariant ∙ rows-by c.args.ids.now c.args.children.now c.args.type_ids.now c.args.offsets.now c.loop-i.i here c.requires.long c.tag_at.ensures.value c.has_row.ensures c.if-not-has_row.true)

pub loop-i-preserved : goal.loop-i-preserved
loop-i-preserved c =
    let here : c.loop-i.i < length c.args.type_ids.now.rows = omega (arith, c.loop-i-test.true, c.len-i-end.ensures) in
    c.loop-i.invariant ∙ rows-by c.args.ids.now c.args.children.now c.args.type_ids.now c.args.offsets.now c.loop-i.i here c.requires.long c.tag_at.ensures.value c.has_row.ensures c.if-not-has_row.false
