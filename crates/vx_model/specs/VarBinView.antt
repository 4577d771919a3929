-- Layout `VarBinView`: a view of its text a row.
use Rattle.std.specs.Prelude.{ℕ, length, List, map, Option, Some, None, if◌then◌else◌, refl}
use Rattle.std.specs.Coded.{Coded, code_by, coded×, coded_ℕ, coded_list}
use Rattle.std.specs.List.{list_all}
use Rattle.vx_types.specs.Text.{is_view, view_text}
use Rattle.vx_types.specs.contracts.text.BinaryView as views
use Rattle.vx_types.specs.contracts.text.TextKind as kinds
use Rattle.vx_types.specs.declared.layout_name.LayoutName.TheVariants.{VarBinView}
use Rattle.vx_types.specs.declared.text.BinaryView.{BinaryView}
use Rattle.vx_types.specs.declared.text.TextKind.{TextKind}
use Rattle.vx_types.specs.declared.error.ColumnError.{ColumnError}
use Rattle.vx_types.specs.declared.error.ColumnError.TheVariants.{BadValidity, BadViews}
use Rattle.vx_model.specs.Column.{Column}
use Rattle.vx_model.specs.Valid.{Valid, is_fitting}
use Rattle.vx_model.specs.ValidCode.{coded_valid}
use Rattle.vx_model.specs.Text.{TextParts, text_column}

-- what a contract sees of a `VarBinViewArray`
pub record ViewParts : Type 0 where
  pub kind : TextKind
  pub views : List BinaryView
  pub buffers : List (List ℕ)
  pub valid : Valid

-- why they are no column, the first that holds
abbrev pub views_fault : ViewParts → Option ColumnError
views_fault p =
    if is_fitting p.valid (length p.views) then
    (if list_all (is_view p.buffers) p.views then None else Some BadViews)
    else Some BadValidity

-- the text of a row is what its view stands for
abbrev pub view_texts : ViewParts → TextParts
view_texts p =
    record {
      layout = VarBinView;
      kind = p.kind;
      texts = map (view_text p.buffers) p.views;
      valid = p.valid;
    }

abbrev pub views_column : ViewParts → Column
views_column p = text_column (view_texts p)

-- the buffers under other views and another validity: what a step leaves
abbrev pub views_with : ViewParts → List BinaryView → Valid → ViewParts
views_with p views valid = record p { views = views; valid = valid }

abbrev Fields : Type 0
Fields = (TextKind × List BinaryView) × (List (List ℕ) × Valid)

abbrev pub coded_views : Coded ViewParts
coded_views =
    code_by Fields
    (coded× (coded× kinds.the_row.coded (coded_list views.the_row.coded))
    (coded× (coded_list (coded_list coded_ℕ)) coded_valid))
    (λ p. ((p.kind, p.views), (p.buffers, p.valid)))
    (λ f. record { kind = f.0.0; views = f.0.1; buffers = f.1.0; valid = f.1.1 })
    (λ _. refl)
