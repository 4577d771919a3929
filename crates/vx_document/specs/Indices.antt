-- What a JSON value means as a list of indices.
use Rattle.std.specs.Prelude.{[], ◌∷◌, if◌then◌else◌, Option, Some, codes}
use Rattle.serde_json.specs.Data.{Data}
use Rattle.serde_json.specs.Find.{get}
use Rattle.vx_types.specs.declared.ptype.PType.TheVariants.{I64}
use Rattle.vx_pieces.specs.Indices.{IndexValue, by_column}
use Rattle.vx_json.specs.Meaning.{◌>>=◌}
use Rattle.vx_json.specs.Members.{is_closed}
use Rattle.vx_document.specs.Columns.{flat_of}
use Rattle.vx_document.specs.Numbers.{numbers_in}
use Rattle.vx_document.specs.Pieces.{pieces_by}

-- an object of pieces alone, or else a list, of type `i64` where it is no column
unfoldable pub indices_of : Data → Option IndexValue
indices_of d =
    if is_closed (codes "pieces" ∷ []) d then get (codes "pieces") d >>= pieces_by
    else (numbers_in I64 d >>= flat_of >>= λ c. Some (by_column c))
