-- The row of the variant is of its type.
use Rattle.std.proofs.Common.{subst, sym, ap, ◌∙◌}
use Rattle.vx_types.specs.DType.{type_of}
use Rattle.vx_column.specs.Cell.{row_of}
use Rattle.vx_column.specs.declared.cell.Cell.{Cell}
use Rattle.vx_interleave.specs.Rows.{IsCellOf}
use Rattle.vx_interleave.specs.Tags.{is_tag, row_in, tag_in}
use Rattle.vx_interleave.specs.Unions.{union_of, variant_row}
use Rattle.vx_interleave.proofs.UnionRows.{null_row, tagged_row, tagged_source}
use Rattle.vx_interleave.proofs.unions.row_at.Goals as goal

pub cell_in-requires-clause-source : goal.cell_in-requires-clause-source
cell_in-requires-clause-source c =
    let v = c.args.variants.now in let n = c.args.nullability in let id = c.args.id in
    tagged_source v n id (type_of c.args.dtype.now) c.requires.variant c.in-Tagged.row
    (subst (IsCellOf (union_of v)) c.in-Tagged.is c.requires.of_kind)
    (ap (λ (x : Cell). is_tag id (tag_in (variant_row v n (row_of x)))) (sym c.in-Tagged.is) ∙ c.requires.tag)

pub cell_in-requires-clause-within : goal.cell_in-requires-clause-within
cell_in-requires-clause-within c =
    let are = subst (IsCellOf (union_of c.args.variants.now)) c.in-Tagged.is c.requires.of_kind in
    are.within

pub returns-in-Tagged-clause-row : goal.returns-in-Tagged-clause-row
returns-in-Tagged-clause-row c =
    let v = c.args.variants.now in let n = c.args.nullability in
    c.cell_in.ensures.row ∙ tagged_row v n c.in-Tagged.row
    ∙ ap (λ (x : Cell). row_in (variant_row v n (row_of x))) (sym c.in-Tagged.is)

pub returns-in_default-clause-row : goal.returns-in_default-clause-row
returns-in_default-clause-row c =
    null_row c.args.variants.now c.args.nullability c.args.id (type_of c.args.dtype.now) c.requires.variant c.args.cell c.requires.of_kind c.in_default.not-Tagged c.requires.tag
