-- What a JSON value means as a column of layout `Extension`.
use Rattle.std.specs.Prelude.{ℕ, List, [], ◌∷◌, Option, Some, codes}
use Rattle.serde_json.specs.Data.{Data}
use Rattle.serde_json.specs.Find.{get, as_str}
use Rattle.vx_types.specs.TypeTree.{with_nullability}
use Rattle.vx_types.specs.declared.nullability.Nullability.TheVariants.{NonNullable}
use Rattle.vx_model.specs.Column.{Column}
use Rattle.vx_model.specs.Extension.{ExtensionParts, extension_column}
use Rattle.vx_json.specs.Meaning.{◌>>=◌}
use Rattle.vx_json.specs.Members.{if_closed}

-- the storage under this name
abbrev pub extension_parts : List ℕ → Column → ExtensionParts
extension_parts name storage =
    record {
      ext = record { name = name; storage = with_nullability storage.dtype NonNullable };
      storage = storage;
    }

unfoldable pub extension_by : Data → Column → Option Column
extension_by d storage = do
  o ← if_closed (codes "layout" ∷ codes "name" ∷ codes "storage" ∷ []) d
  name ← get (codes "name") o >>= as_str
  Some (extension_column (extension_parts name storage))
