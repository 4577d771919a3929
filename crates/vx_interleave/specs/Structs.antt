-- Rows of structs, field by field.
use Rattle.std.specs.Prelude.{◌≡◌, ℕ, suc, List, [], ◌∷◌, map, slice_index_or}
use Rattle.vx_types.specs.RowValue.{RowValue, null, fields}
use Rattle.vx_types.specs.TypeTree.{TypeTree}
use Rattle.vx_model.specs.Column.{Column}
use Rattle.vx_model.specs.Filler.{filler_row}
use Rattle.vx_interleave.specs.Rows.{values_of}

-- field k of a row, which is of this type; a filler of a null
abbrev pub field_in : TypeTree → ℕ → RowValue → RowValue
field_in t k (fields xs) = slice_index_or (values_of xs) k null
field_in t k x = filler_row t

-- columns have the fields of rows from field k on, of these types
abbrev pub AreFields : ℕ → List TypeTree → List RowValue → List Column → Type 0
AreFields k [] rows [] = Unit {0}
AreFields k (t ∷ ts) rows (c ∷ cs) =
    ((c.dtype ≡ t) × (c.rows ≡ map (field_in t k) rows)) × AreFields (suc k) ts rows cs
AreFields k ts rows cs = ⊥
