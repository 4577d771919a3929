-- The bits of one node more.
use Rattle.std.proofs.Common.{ap, ap₂, sym, ◌∙◌, arith, ◌||◌}
use Rattle.std.specs.Prelude.{not}
use Rattle.std.proofs.lemmas.List.Folds.{list_any_at, list_any_more}
use Rattle.vx_arrow_image.specs.Image.{Part, parts_of}
use Rattle.vx_arrow_image.proofs.SoundNodes.{zero_node}
use Rattle.vx_arrow_columns.specs.Picks.{has_bits}
use Rattle.vx_arrow_interleave.specs.Sources.{no_part}
use Rattle.vx_arrow_interleave.proofs.SourceRows.{bits_by}
use Rattle.vx_arrow_interleave.proofs.SpotLists.{part_at_node, parts_len}
use Rattle.vx_arrow_interleave.proofs.sources.have_bits.Goals as goal

pub returns-then-not-is_empty : goal.returns-then-not-is_empty
returns-then-not-is_empty c =
    let nodes = c.args.sources.now in
    let s = c.loop-s.s in
    let own = part_at_node nodes s zero_node c.loop-s-test.true in
    sym (list_any_at (λ (p : Part). has_bits p.valid) (parts_of nodes) s no_part (omega (arith, parts_len nodes)) (ap (λ (p : Part). has_bits p.valid) own ∙ bits_by _ ∙ ap not (sym c.is_empty.ensures ∙ c.if-not-is_empty.true)))

pub loop-s-preserved : goal.loop-s-preserved
loop-s-preserved c =
    let nodes = c.args.sources.now in
    let s = c.loop-s.s in
    let own = part_at_node nodes s zero_node c.loop-s-test.true in
    list_any_more (λ (p : Part). has_bits p.valid) (parts_of nodes) s no_part (omega (arith, parts_len nodes, c.loop-s-test.true)) ∙ ap₂ ◌||◌ c.loop-s.invariant (ap (λ (p : Part). has_bits p.valid) own ∙ bits_by _ ∙ ap not (sym c.is_empty.ensures ∙ c.if-not-is_empty.false))
