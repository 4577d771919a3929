-- What a JSON value means as pieces of indices.
use Rattle.std.specs.Prelude.{ℕ, [], ◌∷◌, if◌then◌else◌, Option, None, codes}
use Rattle.serde_json.specs.Data.{Data}
use Rattle.serde_json.specs.Find.{get}
use Rattle.vx_types.specs.declared.ptype.PType.TheVariants.{U64}
use Rattle.vx_model.specs.Column.{Column}
use Rattle.vx_pieces.specs.Pieces.{pieces_fault, pieces_parts}
use Rattle.vx_pieces.specs.Indices.{IndexValue, by_pieces}
use Rattle.vx_json.specs.Meaning.{◌>>=◌, unless_fault}
use Rattle.vx_json.specs.Members.{is_closed}
use Rattle.vx_json.specs.Wholes.{at_most}
use Rattle.vx_json.specs.declared.wholes.TheConstants.{GREATEST_LEN}
use Rattle.vx_document.specs.Numbers.{numbers_in}

-- the pieces of these columns, where they can make a sequence; it may be unsound
unfoldable pub pieces_made : Column → Column → Column → ℕ → Option IndexValue
pieces_made starts lengths multipliers len =
    unless_fault (pieces_fault (pieces_parts starts lengths multipliers len))
    (by_pieces (pieces_parts starts lengths multipliers len))

-- three lists, of type `u64` where they are no columns, and the declared length
unfoldable pub pieces_by_members : Data → Option IndexValue
pieces_by_members d = do
  starts ← get (codes "starts") d >>= numbers_in U64
  lengths ← get (codes "lengths") d >>= numbers_in U64
  multipliers ← get (codes "multipliers") d >>= numbers_in U64
  len ← get (codes "len") d >>= at_most GREATEST_LEN
  pieces_made starts lengths multipliers len

unfoldable pub pieces_by : Data → Option IndexValue
pieces_by d =
    if is_closed (codes "starts" ∷ codes "lengths" ∷ codes "multipliers" ∷ codes "len" ∷ []) d
    then pieces_by_members d
    else None
