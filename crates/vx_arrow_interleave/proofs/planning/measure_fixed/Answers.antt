-- The records are there, and can be counted.
use Rattle.std.proofs.Common.{ap, sym, refl, ◌∙◌, ◌≡◌, ◌*◌, length, get_or, arith}
use Rattle.vx_arrow_image.specs.Image.{Part, parts_of}
use Rattle.vx_arrow_image.proofs.SoundNodes.{zero_node}
use Rattle.vx_arrow_interleave.specs.Spots.{spots}
use Rattle.vx_arrow_interleave.proofs.PlannedRows.{fixed_measured}
use Rattle.vx_arrow_interleave.proofs.SpotLists.{part_at_node, parts_len}
use Rattle.vx_arrow_interleave.proofs.planning.measure_fixed.Goals as goal

pub returns : goal.returns
returns c =
    let nodes = c.args.sources.now in
    let ss = spots c.args.rows.now in
    let some = c.requires.alike.some in
    let w = (get_or nodes 0 zero_node).width in
    let size : c.in-Some.values ≡ length ss * w = c.in-Some.ensures.1 ∙ ap (λ n. n * w) c.requires.len in
    let wide = ap (λ (p : Part). p.width) (sym (part_at_node nodes 0 zero_node (omega (arith, some, parts_len nodes)))) in
    fixed_measured (parts_of nodes) ss w c.in-Some.values c.leaf.result wide (c.if-not-hold_records.ensures refl) size (omega (arith, c.if-values.false)) c.leaf.ensures.leaf c.leaf.ensures.values c.leaf.ensures.items
