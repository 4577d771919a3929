-- What a JSON value means as a column of layout `Null`.
use Rattle.std.specs.Prelude.{[], ◌∷◌, Option, Some, codes}
use Rattle.serde_json.specs.Data.{Data}
use Rattle.serde_json.specs.Find.{get}
use Rattle.vx_model.specs.Column.{Column}
use Rattle.vx_model.specs.Null.{null_column}
use Rattle.vx_json.specs.Meaning.{◌>>=◌}
use Rattle.vx_json.specs.Members.{if_closed}
use Rattle.vx_json.specs.Wholes.{at_most}
use Rattle.vx_json.specs.declared.wholes.TheConstants.{GREATEST_LEN}

unfoldable pub null_by : Data → Option Column
null_by d = do
  o ← if_closed (codes "layout" ∷ codes "len" ∷ []) d
  len ← get (codes "len") o >>= at_most GREATEST_LEN
  Some (null_column len)
