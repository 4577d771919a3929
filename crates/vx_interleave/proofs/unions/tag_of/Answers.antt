-- The first id, where the type has no nulls.
use Rattle.std.proofs.Common.{ℕ, List, Some, get_or, sym, ap, ap₂, ◌∙◌}
use Rattle.vx_types.specs.declared.nullability.Nullability.{Nullability}
use Rattle.vx_column.specs.Cell.{row_of}
use Rattle.vx_column.specs.declared.cell.Cell.{Cell}
use Rattle.vx_column.proofs.VariantCounts.{first-variant, many-variants}
use Rattle.vx_interleave.specs.Tags.{tag_in}
use Rattle.vx_interleave.specs.Unions.{variant_row}
use Rattle.vx_interleave.proofs.UnionRows.{first-tag}
use Rattle.vx_interleave.proofs.unions.tag_of.Goals as goal

pub returns-in-NonNullable : goal.returns-in-NonNullable
returns-in-NonNullable c =
    let v = c.args.variants.now in let sound = c.ids.ensures.valid in
    ap (λ (l : List ℕ). Some (get_or l 0 0)) c.ids.ensures.value
    ∙ first-tag v.ids v.types (first-variant v sound) (many-variants v sound)
    ∙ ap₂ (λ (n : Nullability) (x : Cell). tag_in (variant_row v n (row_of x))) (sym c.in-NonNullable.is) (sym c.in-Null.is)
