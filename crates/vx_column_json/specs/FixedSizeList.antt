-- What a JSON value means as a column of layout `FixedSizeList`.
use Rattle.std.specs.Prelude.{ℕ, [], ◌∷◌, Option, codes}
use Rattle.serde_json.specs.Data.{Data}
use Rattle.serde_json.specs.Find.{get}
use Rattle.vx_model.specs.Column.{Column}
use Rattle.vx_model.specs.FixedSizeList.{FixedParts, fixed_fault, fixed_column}
use Rattle.vx_model.specs.Valid.{Valid}
use Rattle.vx_json.specs.Meaning.{◌>>=◌}
use Rattle.vx_json.specs.Members.{if_closed}
use Rattle.vx_json.specs.Wholes.{at_most}
use Rattle.vx_json.specs.declared.wholes.TheConstants.{GREATEST_LEN}
use Rattle.vx_column_json.specs.Made.{made}

abbrev pub fixed_parts : Column → ℕ → ℕ → Valid → FixedParts
fixed_parts elements size len valid =
    record { elements = elements; size = size; len = len; valid = valid }

-- the column of `len` lists of `size` elements each, where the elements are as many, and where the
-- validity can be its
abbrev pub fixed_made : Column → ℕ → ℕ → Valid → Option Column
fixed_made elements size len valid =
    made fixed_fault fixed_column (fixed_parts elements size len valid)

-- a size of 32 bits, and the number of rows
unfoldable pub fixed_by : Data → Column → Valid → Option Column
fixed_by d elements valid = do
  o ←
      if_closed (codes "layout" ∷ codes "size" ∷ codes "len" ∷ codes "elements"
      ∷ codes "validity" ∷ []) d
  size ← get (codes "size") o >>= at_most 4294967295
  len ← get (codes "len") o >>= at_most GREATEST_LEN
  fixed_made elements size len valid
