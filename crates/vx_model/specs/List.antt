-- Layout `List`: lists whose elements stand one after another, cut by offsets.
use Rattle.std.specs.Prelude.{length, Option, Some, None, if◌then◌else◌, refl}
use Rattle.std.specs.Coded.{Coded, code_by, coded×}
use Rattle.vx_types.specs.TypeTree.{TypeKind, TypeTree, list_kind}
use Rattle.vx_types.specs.declared.layout_name.LayoutName.TheVariants.{List as ListLayout}
use Rattle.vx_types.specs.declared.error.ColumnError.{ColumnError}
use Rattle.vx_types.specs.declared.error.ColumnError.TheVariants.{WrongType, BadValidity, BadOffsets}
use Rattle.vx_offsets.specs.Offsets.{are_offsets, offset_positions, spans}
use Rattle.vx_model.specs.Column.{Column}
use Rattle.vx_model.specs.ColumnCode.{coded_column}
use Rattle.vx_model.specs.Lists.{ListsParts, lists_column}
use Rattle.vx_model.specs.Numbers.{integers_of}
use Rattle.vx_model.specs.Records.{RecordParts, coded_records}
use Rattle.vx_model.specs.Valid.{Valid, is_fitting}
use Rattle.vx_model.specs.ValidCode.{coded_valid}
use Rattle.vx_model.specs.VarBin.{are_integers, row_count}

-- what a contract sees of a `ListArray`
pub record ListParts : Type 0 where
  pub elements : Column
  -- one more than rows
  pub offsets : RecordParts
  pub valid : Valid

-- the kind of lists of such elements
abbrev pub list_of : TypeTree → TypeKind
list_of t = list_kind t.kind t.nullability

-- why they are no column, the first that holds
abbrev pub list_fault : ListParts → Option ColumnError
list_fault p =
    if are_integers p.offsets then
    (if is_fitting p.valid (row_count p.offsets) then
    (if are_offsets (integers_of p.offsets) (length p.elements.rows) then None else Some BadOffsets)
    else Some BadValidity)
    else Some WrongType

-- the elements of a row go from its offset up to the next
abbrev pub list_spans : ListParts → ListsParts
list_spans p =
    record {
      layout = ListLayout;
      kind = list_of p.elements.dtype;
      elements = p.elements;
      spans = spans (offset_positions (integers_of p.offsets));
      valid = p.valid;
    }

abbrev pub list_column : ListParts → Column
list_column p = lists_column (list_spans p)

abbrev pub coded_list_parts : Coded ListParts
coded_list_parts =
    code_by (Column × (RecordParts × Valid))
    (coded× coded_column (coded× coded_records coded_valid))
    (λ p. (p.elements, (p.offsets, p.valid)))
    (λ f. record { elements = f.0; offsets = f.1.0; valid = f.1.1 })
    (λ _. refl)
