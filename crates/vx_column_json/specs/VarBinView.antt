-- What a JSON value means as a column of layout `VarBinView`.
use Rattle.std.specs.Prelude.{ℕ, List, [], ◌∷◌, if◌then◌else◌, Option, Some, None, codes}
use Rattle.serde_json.specs.Data.{Data, Items}
use Rattle.serde_json.specs.Find.{get, as_str, as_array}
use Rattle.vx_types.specs.declared.text.BinaryView.{BinaryView}
use Rattle.vx_types.specs.declared.text.TextKind.{TextKind}
use Rattle.vx_model.specs.Column.{Column}
use Rattle.vx_model.specs.Valid.{Valid}
use Rattle.vx_model.specs.VarBinView.{ViewParts, views_fault, views_column}
use Rattle.vx_json.specs.Meaning.{◌>>=◌}
use Rattle.vx_json.specs.Members.{is_closed}
use Rattle.vx_json.specs.Items.{each}
use Rattle.vx_json.specs.Texts.{text_kind_named, text_or_empty, bytes_of}
use Rattle.vx_json.specs.Views.{view_in, views_and_buffer}
use Rattle.vx_column_json.specs.Made.{made}
use Rattle.vx_column_json.specs.Validity.{validity_alone, validity_beside}

abbrev pub view_parts : TextKind → List BinaryView → List (List ℕ) → Valid → ViewParts
view_parts kind views buffers valid =
    record { kind = kind; views = views; buffers = buffers; valid = valid }

-- these parts, where each view is one of a text, and the validity can be theirs
abbrev pub views_made : TextKind → List BinaryView → List (List ℕ) → Valid → Option ViewParts
views_made kind views buffers valid =
    made views_fault (λ p. p) (view_parts kind views buffers valid)

-- a list of texts and nulls: what a view doesn't have in itself stands in buffer 0
unfoldable pub views_by_items : TextKind → Option Valid → Items → Option ViewParts
views_by_items kind stated items = do
  valid ← validity_beside stated items
  texts ← each (text_or_empty kind) items >>= views_and_buffer
  views_made kind texts.0 (texts.1 ∷ []) valid

-- views, and the buffers that they look into
unfoldable pub views_by_buffers : TextKind → Option Valid → Data → Option ViewParts
views_by_buffers kind stated d = do
  views ← get (codes "views") d >>= as_array >>= each view_in
  buffers ← get (codes "buffers") d >>= as_array >>= each bytes_of
  views_made kind views buffers (validity_alone stated)

-- views, and buffers
unfoldable pub views_array : Data → Option Valid → Option ViewParts
views_array d stated = do
  kind ← get (codes "type") d >>= as_str >>= text_kind_named
  if is_closed (codes "layout" ∷ codes "type" ∷ codes "values" ∷ codes "validity" ∷ []) d
      then get (codes "values") d >>= as_array >>= views_by_items kind stated
      else if is_closed (codes "layout" ∷ codes "type" ∷ codes "views" ∷ codes "buffers"
      ∷ codes "validity" ∷ []) d
      then views_by_buffers kind stated d
      else None

-- the column of them; it doesn't tell the views
unfoldable pub views_by : Data → Option Valid → Option Column
views_by d stated = views_array d stated >>= λ p. Some (views_column p)
