-- The rows of a span, by their places.
use Rattle.std.proofs.Common.{◌≡◌, ◌+◌, ◌<◌, length, get_or, ap, sym, subst, ◌∙◌, arith}
use Rattle.vx_arrow_image.specs.Image.{Part, parts_of}
use Rattle.vx_arrow_image.proofs.SoundNodes.{zero_node}
use Rattle.vx_arrow_interleave.specs.Given.{places}
use Rattle.vx_arrow_interleave.specs.Sources.{AreRows, part_at}
use Rattle.vx_arrow_interleave.specs.Spots.{run_of}
use Rattle.vx_arrow_interleave.proofs.SourceRows.{run_places, run_rows}
use Rattle.vx_arrow_interleave.proofs.SpotLists.{few_rows, one_span, part_at_node, parts_len}
use Rattle.vx_arrow_interleave.proofs.sources.placed.Goals as goal

pub overflow_add-result : goal.overflow_add-result
overflow_add-result c =
    let nodes = c.args.sources.now in
    let s = c.args.span.source in
    let low : s < length nodes = c.if-span-sources.false in
    let few = few_rows (parts_of nodes) s c.requires (omega (arith, parts_len nodes)) in
    let same : (part_at (parts_of nodes) s).offset + (part_at (parts_of nodes) s).len ≡ (get_or nodes s zero_node).offset + (get_or nodes s zero_node).len = ap (λ (p : Part). p.offset + p.len) (part_at_node nodes s zero_node low) in
    omega (arith, c.in-Some.ensures, c.if-end-node.false)

pub returns-clause-places : goal.returns-clause-places
returns-clause-places c =
    let nodes = c.args.sources.now in
    let span = c.args.span in
    let low : span.source < length nodes = c.if-span-sources.false in
    ap (places (parts_of nodes)) (one_span span) ∙ run_places (parts_of nodes) span.source span.start span.len
    ∙ ap (λ (p : Part). run_of span.source (p.offset + span.start) span.len) (part_at_node nodes span.source zero_node low)
    ∙ sym (one_span _)

pub returns-clause-rows : goal.returns-clause-rows
returns-clause-rows c =
    let nodes = c.args.sources.now in
    let span = c.args.span in
    let low : span.source < length nodes = c.if-span-sources.false in
    let same : (part_at (parts_of nodes) span.source).len ≡ (get_or nodes span.source zero_node).len = ap (λ (p : Part). p.len) (part_at_node nodes span.source zero_node low) in
    subst (AreRows (parts_of nodes)) (sym (one_span span)) (run_rows (parts_of nodes) span.source span.start span.len (omega (arith, parts_len nodes)) (omega (arith, c.in-Some.ensures, c.if-end-node.false)))
