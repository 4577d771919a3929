-- What a JSON value means as a column of layout `Bool`.
use Rattle.std.specs.Prelude.{ℕ, List, [], ◌∷◌, Bool, Option, Some, None, codes}
use Rattle.serde_json.specs.Data.{Data, Items}
use Rattle.serde_json.specs.Find.{get, as_str, as_array}
use Rattle.vx_model.specs.Column.{Column}
use Rattle.vx_model.specs.Valid.{Valid}
use Rattle.vx_model.specs.Bool.{BoolParts, bool_with, bool_fault, bool_column}
use Rattle.vx_json.specs.Meaning.{◌>>=◌, found_or}
use Rattle.vx_json.specs.Members.{if_closed}
use Rattle.vx_json.specs.Items.{each}
use Rattle.vx_json.specs.Wholes.{at_most}
use Rattle.vx_json.specs.BitText.{bits_in}
use Rattle.vx_json.specs.Bools.{bool_or_clear}
use Rattle.vx_column_json.specs.Made.{made}
use Rattle.vx_column_json.specs.Validity.{validity_alone, validity_beside}

-- these bits, from that bit of a byte on, where the validity can be theirs
abbrev pub bools_made : List Bool → ℕ → Valid → Option BoolParts
bools_made bits offset valid = made bool_fault (λ p. p) (bool_with bits offset valid)

-- a list of bools and nulls
unfoldable pub bools_by_items : Option Valid → ℕ → Items → Option BoolParts
bools_by_items stated offset items = do
  valid ← validity_beside stated items
  bits ← each bool_or_clear items
  bools_made bits offset valid

-- a text of `0` and `1`
unfoldable pub bools_by_text : Option Valid → ℕ → List ℕ → Option BoolParts
bools_by_text stated offset text = do
  bits ← bits_in text
  bools_made bits offset (validity_alone stated)

abbrev pub bools_by_kind : Option Valid → ℕ → Option (List ℕ) → Option Items → Option BoolParts
bools_by_kind stated offset (Some s) items = bools_by_text stated offset s
bools_by_kind stated offset None items = items >>= bools_by_items stated offset

-- at which bit of a byte the first bit is stored
unfoldable pub offset_of : Data → Option ℕ
offset_of d = found_or 0 (at_most 7) (get (codes "offset") d)

-- the bits as they are stored, and which rows are valid
unfoldable pub bool_array : Data → Option Valid → Option BoolParts
bool_array d stated = do
  o ← if_closed (codes "layout" ∷ codes "values" ∷ codes "validity" ∷ codes "offset" ∷ []) d
  offset ← offset_of o
  values ← get (codes "values") o
  bools_by_kind stated offset (as_str values) (as_array values)

-- the column of them; it doesn't tell the offset
unfoldable pub bool_by : Data → Option Valid → Option Column
bool_by d stated = bool_array d stated >>= λ p. Some (bool_column p)
