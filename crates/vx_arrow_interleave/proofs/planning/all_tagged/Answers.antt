-- The rows of one span more.
use Rattle.std.proofs.Common.{get_or, ap, sym, ◌∙◌, refl, arith}
use Rattle.vx_arrow_image.specs.Image.{holds_ids, part_of, parts_of}
use Rattle.vx_arrow_image.proofs.SoundNodes.{zero_node}
use Rattle.vx_arrow_interleave.proofs.SourceRows.{is_in_node}
use Rattle.vx_arrow_interleave.proofs.SpanTests.{IsTagged, each_same, each_start, tagged_all, tagged_more}
use Rattle.vx_arrow_interleave.proofs.SpotLists.{no_span, parts_len}
use Rattle.vx_arrow_interleave.proofs.planning.all_tagged.Goals as goal
use Rattle.vx_arrow_interleave.proofs.planning.all_tagged.Goals.{then-span-ne0+else-not-are_tagged, else-span-ne0}

pub loop-k-init : goal.loop-k-init
loop-k-init c = each_start (IsTagged (parts_of c.args.sources.now)) c.args.rows.now

pub offset_bounds-sources-span : goal.offset_bounds-sources-span
offset_bounds-sources-span c =
    let n = is_in_node c.args.sources.now c.args.rows.now c.loop-k.k c.requires.alike c.requires.rows c.loop-k-test.true (omega (arith, c.if-span-ne0.true)) in
    omega (arith, n.source)

pub bounds-sources-span : goal.bounds-sources-span
bounds-sources-span c =
    let n = is_in_node c.args.sources.now c.args.rows.now c.loop-k.k c.requires.alike c.requires.rows c.loop-k-test.true (omega (arith, c.if-span-ne0.true)) in
    n.source

pub are_tagged-requires-clause-held : goal.are_tagged-requires-clause-held
are_tagged-requires-clause-held c =
    let nodes = c.args.sources.now in
    let n = is_in_node nodes c.args.rows.now c.loop-k.k c.requires.alike c.requires.rows c.loop-k-test.true (omega (arith, c.if-span-ne0.true)) in
    ap holds_ids (sym n.part) ∙ c.requires.ids.held _ (omega (arith, n.source, parts_len nodes))

pub are_tagged-requires-clause-from : goal.are_tagged-requires-clause-from
are_tagged-requires-clause-from c =
    let n = is_in_node c.args.sources.now c.args.rows.now c.loop-k.k c.requires.alike c.requires.rows c.loop-k-test.true (omega (arith, c.if-span-ne0.true)) in
    n.from

pub are_tagged-requires-clause-below : goal.are_tagged-requires-clause-below
are_tagged-requires-clause-below c =
    let n = is_in_node c.args.sources.now c.args.rows.now c.loop-k.k c.requires.alike c.requires.rows c.loop-k-test.true (omega (arith, c.if-span-ne0.true)) in
    n.below

pub are_tagged-requires-clause-few : goal.are_tagged-requires-clause-few
are_tagged-requires-clause-few c =
    let n = is_in_node c.args.sources.now c.args.rows.now c.loop-k.k c.requires.alike c.requires.rows c.loop-k-test.true (omega (arith, c.if-span-ne0.true)) in
    n.few

pub loop-k-preserved : goal.loop-k-preserved
loop-k-preserved c =
    let nodes = c.args.sources.now in
    let ps = parts_of nodes in
    let ss = c.args.rows.now in
    let k = c.loop-k.k in
    let s = get_or ss k no_span in
    elim c.if-span-ne0.branch [
      | then-span-ne0+else-not-are_tagged w ↦
          let n = is_in_node nodes ss k c.requires.alike c.requires.rows c.loop-k-test.true (omega (arith, w.if-span-ne0.true)) in
          tagged_more ps (part_of (get_or nodes s.source zero_node)) ss k c.loop-k-test.true n.part (w.if-not-are_tagged.ensures refl) c.loop-k.invariant
      | else-span-ne0 w ↦ each_same (IsTagged ps) ss k c.loop-k-test.true w.if-span-ne0.false c.loop-k.invariant
    ]

pub returns : goal.returns
returns c _ = tagged_all (parts_of c.args.sources.now) c.args.rows.now c.loop-k.k (omega arith) c.requires.ids c.loop-k.invariant
