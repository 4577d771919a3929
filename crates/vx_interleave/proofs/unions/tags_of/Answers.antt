-- One id more.
use Rattle.std.proofs.Common.{ℕ, Option, ◌++◌, [], ◌∷◌, ap, ◌∙◌}
use Rattle.vx_interleave.proofs.UnionRows.{tag_more}
use Rattle.vx_interleave.proofs.unions.tags_of.Goals as goal

pub loop-cell-preserved : goal.loop-cell-preserved
loop-cell-preserved c =
    let tags = c.loop-cell.tags.items in
    tag_more c.args.variants.now c.args.nullability c.args.cells.now c.loop-cell.cell-index c.cell-item.result c.loop-cell-test.true c.cell-item.is
    tags c.push.new.self.items c.loop-cell.invariant
    (c.in_ok-push.ensures.items ∙ ap (λ (t : Option ℕ). tags ++ t ∷ []) c.tag_of.ensures)
