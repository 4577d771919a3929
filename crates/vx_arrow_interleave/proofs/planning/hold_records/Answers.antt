-- The records of one span more.
use Rattle.std.proofs.Common.{◌≤◌, ◌+◌, ◌*◌, get_or, length, arith}
use Rattle.vx_arrow_image.specs.Image.{part_of, parts_of}
use Rattle.vx_arrow_image.proofs.SoundNodes.{zero_node}
use Rattle.vx_arrow_interleave.proofs.SourceRows.{is_in_node}
use Rattle.vx_arrow_interleave.proofs.SpanTests.{hold_all, hold_more, hold_none, hold_same}
use Rattle.vx_arrow_interleave.proofs.SpotLists.{no_span, parts_len}
use Rattle.vx_arrow_interleave.proofs.planning.hold_records.Goals as goal
use Rattle.vx_arrow_interleave.proofs.planning.hold_records.Goals.{then-span-ne0+in-Some+else-end-sources, else-span-ne0}

pub loop-k-init : goal.loop-k-init
loop-k-init c = hold_none c.args.width (parts_of c.args.sources.now) c.args.rows.now

pub overflow_add-span : goal.overflow_add-span
overflow_add-span c =
    let n = is_in_node c.args.sources.now c.args.rows.now c.loop-k.k c.requires.alike c.requires.rows c.loop-k-test.true (omega (arith, c.if-span-ne0.true)) in
    omega (arith, n.below, n.few)

pub offset_bounds-sources-span : goal.offset_bounds-sources-span
offset_bounds-sources-span c =
    let n = is_in_node c.args.sources.now c.args.rows.now c.loop-k.k c.requires.alike c.requires.rows c.loop-k-test.true (omega (arith, c.if-span-ne0.true)) in
    omega (arith, n.source)

pub bounds-sources-span : goal.bounds-sources-span
bounds-sources-span c =
    let n = is_in_node c.args.sources.now c.args.rows.now c.loop-k.k c.requires.alike c.requires.rows c.loop-k-test.true (omega (arith, c.if-span-ne0.true)) in
    n.source

pub loop-k-preserved : goal.loop-k-preserved
loop-k-preserved c =
    let nodes = c.args.sources.now in
    let ps = parts_of nodes in
    let ss = c.args.rows.now in
    let k = c.loop-k.k in
    let s = get_or ss k no_span in
    elim c.if-span-ne0.branch [
      | then-span-ne0+in-Some+else-end-sources w ↦
          let n = is_in_node nodes ss k c.requires.alike c.requires.rows c.loop-k-test.true (omega (arith, w.if-span-ne0.true)) in
          let room : (s.start + s.len) * c.args.width ≤ length (get_or nodes s.source zero_node).values.now = omega (arith, w.in-Some.ensures.1, w.if-end-sources.false) in
          hold_more c.args.width ps (part_of (get_or nodes s.source zero_node)) ss k c.loop-k-test.true (omega (arith, n.source, parts_len nodes)) n.part room c.loop-k.invariant
      | else-span-ne0 w ↦ hold_same c.args.width ps ss k c.loop-k-test.true w.if-span-ne0.false c.loop-k.invariant
    ]

pub returns : goal.returns
returns c _ = hold_all c.args.width (parts_of c.args.sources.now) c.args.rows.now c.loop-k.k (omega arith) c.loop-k.invariant
