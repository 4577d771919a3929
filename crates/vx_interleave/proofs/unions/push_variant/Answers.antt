-- A row of the variant, and one that isn't.
use Rattle.std.proofs.Common.{sym, ap, ◌∙◌}
use Rattle.vx_types.specs.DType.{type_of}
use Rattle.vx_column.specs.Cell.{row_of}
use Rattle.vx_interleave.specs.Tags.{is_tag}
use Rattle.vx_interleave.specs.Unions.{variant_row}
use Rattle.vx_interleave.proofs.UnionRows.{adds_other, adds_row}
use Rattle.vx_interleave.proofs.unions.push_variant.Goals as goal

pub row_at-requires-clause-tag : goal.row_at-requires-clause-tag
row_at-requires-clause-tag c = ap (is_tag c.args.id) (sym c.tag_of.ensures) ∙ sym c.is_tag.ensures ∙ c.if-not-is_tag.false

pub returns-then-not-is_tag : goal.returns-then-not-is_tag
returns-then-not-is_tag c =
    adds_other (type_of c.args.dtype.now) c.args.id (variant_row c.args.variants.now c.args.nullability (row_of c.args.cell)) c.args.chosen.now.items
    (ap (is_tag c.args.id) (sym c.tag_of.ensures) ∙ sym c.is_tag.ensures ∙ c.if-not-is_tag.true)

pub returns : goal.returns
returns c =
    adds_row (type_of c.args.dtype.now) c.args.id (variant_row c.args.variants.now c.args.nullability (row_of c.args.cell)) c.row_at.result c.args.chosen.now.items c.push.new.self.items
    (ap (is_tag c.args.id) (sym c.tag_of.ensures) ∙ sym c.is_tag.ensures ∙ c.if-not-is_tag.false)
    c.row_at.ensures.of_kind c.row_at.ensures.row c.in_ok-push.ensures.items
