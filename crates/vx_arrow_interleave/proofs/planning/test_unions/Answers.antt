-- One node more.
use Rattle.std.proofs.Common.{get_or, arith}
use Rattle.vx_arrow_image.specs.Image.{part_of, parts_of}
use Rattle.vx_arrow_image.proofs.SoundNodes.{zero_node}
use Rattle.vx_arrow_interleave.proofs.SpanTests.{node_children, node_few, same_all, same_more, same_none}
use Rattle.vx_arrow_interleave.proofs.SpotLists.{part_at_node, parts_len}
use Rattle.vx_arrow_interleave.proofs.planning.test_unions.Goals as goal

pub holds_ids-requires : goal.holds_ids-requires
holds_ids-requires c = let nodes = c.args.sources.now in node_few nodes 0 c.requires (omega (arith, c.requires.some, parts_len nodes))

pub test_ids-requires-clause-few : goal.test_ids-requires-clause-few
test_ids-requires-clause-few c = node_few c.args.sources.now c.loop-s.s c.requires c.loop-s-test.true

pub test_ids-requires-clause-children : goal.test_ids-requires-clause-children
test_ids-requires-clause-children c = node_children c.args.sources.now c.loop-s.s c.requires c.loop-s-test.true

pub loop-s-init : goal.loop-s-init
loop-s-init c = same_none (parts_of c.args.sources.now)

pub loop-s-preserved : goal.loop-s-preserved
loop-s-preserved c =
    let nodes = c.args.sources.now in
    let s = c.loop-s.s in
    let some = c.requires.some in
    same_more (parts_of nodes) (part_of (get_or nodes 0 zero_node)) (part_of (get_or nodes s zero_node)) s (part_at_node nodes 0 zero_node (omega (arith, some, parts_len nodes))) (part_at_node nodes s zero_node c.loop-s-test.true)
    c.in_ok-test_ids.ensures.held c.in_ok-test_ids.ensures.same c.loop-s.invariant

pub returns : goal.returns
returns c = same_all (parts_of c.args.sources.now) c.loop-s.s (omega (arith, parts_len c.args.sources.now)) c.loop-s.invariant
