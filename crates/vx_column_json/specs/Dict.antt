-- What a JSON value means as a column of layout `Dict`.
use Rattle.std.specs.Prelude.{[], ◌∷◌, if◌then◌else◌, Option, None, codes}
use Rattle.serde_json.specs.Data.{Data}
use Rattle.vx_model.specs.Column.{Column}
use Rattle.vx_model.specs.Dict.{DictParts, dict_fault, dict_column}
use Rattle.vx_json.specs.Members.{is_closed}
use Rattle.vx_column_json.specs.Made.{made}

abbrev pub dict_parts : Column → Column → DictParts
dict_parts c values = record { codes = c; values = values }

-- the column of these values, where each code is the number of one
abbrev pub dict_made : Column → Column → Option Column
dict_made c values = made dict_fault dict_column (dict_parts c values)

unfoldable pub dict_by : Data → Column → Column → Option Column
dict_by d c values =
    if is_closed (codes "layout" ∷ codes "codes" ∷ codes "values" ∷ []) d
    then dict_made c values
    else None
