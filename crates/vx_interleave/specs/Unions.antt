-- Rows of unions, each with its variant.
use Rattle.std.specs.Prelude.{◌≡◌, ℕ, List, [], ◌∷◌, map}
use Rattle.vx_types.specs.FieldTypes.{VariantTypes}
use Rattle.vx_types.specs.RowValue.{RowValue}
use Rattle.vx_types.specs.TypeTree.{TypeKind, TypeTree, types_of, union_kind}
use Rattle.vx_types.specs.declared.nullability.Nullability.{Nullability}
use Rattle.vx_model.specs.Column.{Column}
use Rattle.vx_interleave.specs.Rows.{shown_as}
use Rattle.vx_interleave.specs.Tags.{rows_under}

-- the kind of unions of these variants
abbrev pub union_of : VariantTypes → TypeKind
union_of v = union_kind v.ids v.names (types_of v.types)

-- a row as one of a union of these variants
abbrev pub variant_row : VariantTypes → Nullability → RowValue → RowValue
variant_row v n x = shown_as (record { kind = union_of v; nullability = n }) x

abbrev pub variant_rows : VariantTypes → Nullability → List RowValue → List RowValue
variant_rows v n rows = map (variant_row v n) rows

-- columns have the rows of the variants with these ids and types
abbrev pub AreVariants : List ℕ → List TypeTree → List RowValue → List Column → Type 0
AreVariants [] [] rows [] = Unit {0}
AreVariants (id ∷ ids) (t ∷ ts) rows (c ∷ cs) =
    ((c.dtype ≡ t) × (c.rows ≡ rows_under id rows)) × AreVariants ids ts rows cs
AreVariants ids ts rows cs = ⊥
