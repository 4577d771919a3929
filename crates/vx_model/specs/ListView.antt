-- Layout `ListView`: lists that each have an offset and a size.
use Rattle.std.specs.Prelude.{ℕ, ℤ, ◌+◌, ◌==◌, ◌&&◌, Bool, length, List, [], ◌∷◌, Option, Some, None, if◌then◌else◌, refl}
use Rattle.std.specs.Coded.{Coded, code_by, coded×}
use Rattle.std.specs.List.{list_all}
use Rattle.vx_types.specs.declared.layout_name.LayoutName.TheVariants.{ListView as ListViewLayout}
use Rattle.vx_types.specs.declared.error.ColumnError.{ColumnError}
use Rattle.vx_types.specs.declared.error.ColumnError.TheVariants.{WrongType, WrongLength, BadValidity, BadOffsets, BadSizes}
use Rattle.vx_offsets.specs.Offsets.{are_views, is_natural, offset_positions}
use Rattle.vx_model.specs.Column.{Column}
use Rattle.vx_model.specs.ColumnCode.{coded_column}
use Rattle.vx_model.specs.List.{list_of}
use Rattle.vx_model.specs.Lists.{ListsParts, lists_column}
use Rattle.vx_model.specs.Numbers.{integers_of}
use Rattle.vx_model.specs.Records.{RecordParts, coded_records}
use Rattle.vx_model.specs.Valid.{Valid, is_fitting}
use Rattle.vx_model.specs.ValidCode.{coded_valid}
use Rattle.vx_model.specs.VarBin.{are_integers}

-- what a contract sees of a `ListViewArray`
pub record ListViewParts : Type 0 where
  pub elements : Column
  pub offsets : RecordParts
  pub sizes : RecordParts
  pub valid : Valid

-- no size is negative, or passes the elements
abbrev pub are_sizes : List ℤ → List ℤ → ℕ → Bool
are_sizes offsets sizes n =
    list_all is_natural sizes && are_views (offset_positions offsets) (offset_positions sizes) n

-- the offsets and the sizes are integers, none of them null
abbrev pub are_view_types : ListViewParts → Bool
are_view_types p = are_integers p.offsets && are_integers p.sizes

abbrev pub are_as_many : ListViewParts → Bool
are_as_many p = length p.offsets.records == length p.sizes.records

-- why they are no column, the first that holds
abbrev pub listview_fault : ListViewParts → Option ColumnError
listview_fault p =
    if are_view_types p then
    (if are_as_many p then
    (if is_fitting p.valid (length p.offsets.records) then
    (if list_all is_natural (integers_of p.offsets) then
    (if are_sizes (integers_of p.offsets) (integers_of p.sizes) (length p.elements.rows) then None
    else Some BadSizes)
    else Some BadOffsets)
    else Some BadValidity)
    else Some WrongLength)
    else Some WrongType

-- from each offset so many as its size
abbrev pub view_spans : List ℕ → List ℕ → List (ℕ × ℕ)
view_spans [] sizes = []
view_spans (o ∷ offsets) [] = []
view_spans (o ∷ offsets) (s ∷ sizes) = (o, o + s) ∷ view_spans offsets sizes

-- the elements of a row are as many as its size, from its offset on
abbrev pub listview_spans : ListViewParts → ListsParts
listview_spans p =
    record {
      layout = ListViewLayout;
      kind = list_of p.elements.dtype;
      elements = p.elements;
      spans =
          view_spans (offset_positions (integers_of p.offsets))
          (offset_positions (integers_of p.sizes));
      valid = p.valid;
    }

abbrev pub listview_column : ListViewParts → Column
listview_column p = lists_column (listview_spans p)

abbrev pub coded_listview : Coded ListViewParts
coded_listview =
    code_by ((Column × RecordParts) × (RecordParts × Valid))
    (coded× (coded× coded_column coded_records) (coded× coded_records coded_valid))
    (λ p. ((p.elements, p.offsets), (p.sizes, p.valid)))
    (λ f. record { elements = f.0.0; offsets = f.0.1; sizes = f.1.0; valid = f.1.1 })
    (λ _. refl)
