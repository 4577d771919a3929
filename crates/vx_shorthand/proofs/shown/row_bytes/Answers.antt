-- The second text is the first one, the row and a line feed.
use Rattle.std.proofs.Common.{◌≡◌, ◌<◌, length, arith}
use Rattle.vx_shorthand.proofs.Rows.{copied_part, slice_between, slice_longer}
use Rattle.vx_shorthand.proofs.shown.row_bytes.Goals as goal

pub all_but_last-row-requires : goal.all_but_last-row-requires
all_but_last-row-requires c =
    let head = c.in_ok-head.head.items in
    let whole = c.in_ok-whole.whole.items in
    let e : length head < length whole = slice_longer c.args.column.now c.in_ok-slice.field-0 c.in_ok-slice-2.field-0 c.args.i head whole c.requires c.in_ok-slice.ensures.cut c.in_ok-slice-2.ensures.cut c.in_ok-head.ensures c.in_ok-whole.ensures in
    grind (arith, e)

pub returns : goal.returns
returns c =
    let head = c.in_ok-head.head.items in
    let whole = c.in_ok-whole.whole.items in
    let counted : c.len-2.result ≡ length head = omega (arith, c.len-2.ensures, c.in_ok-head.head.ok.0) in
    copied_part _ head whole c.as_slice.result.now c.all_but_last-row.result.now c.in_ok-from_slice.field-0.items c.len-2.result
    (slice_between c.args.column.now c.in_ok-slice.field-0 c.in_ok-slice-2.field-0 c.args.i head whole c.requires c.in_ok-slice.ensures.cut c.in_ok-slice-2.ensures.cut c.in_ok-head.ensures c.in_ok-whole.ensures)
    counted c.as_slice.ensures.value c.all_but_last-row.ensures c.in_ok-from_slice.ensures.items
