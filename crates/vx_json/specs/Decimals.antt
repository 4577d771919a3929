-- What a JSON value means as a decimal type.
use Rattle.std.specs.Prelude.{ℕ, ℤ, if◌then◌else◌, Option, Some, None, codes}
use Rattle.serde_json.specs.Data.{Data}
use Rattle.serde_json.specs.Find.{get, as_number, as_integer}
use Rattle.vx_types.specs.PType.{is_in_range}
use Rattle.vx_types.specs.Decimal.{DecimalValue, decimal_fault}
use Rattle.vx_types.specs.declared.ptype.PType.TheVariants.{I8}
use Rattle.vx_json.specs.Meaning.{◌>>=◌, unless_fault}
use Rattle.vx_json.specs.Wholes.{at_most}

-- a whole number from -128 to 127
unfoldable pub signed_byte : Data → Option ℤ
signed_byte d = do
  n ← as_number d
  z ← as_integer n
  if is_in_range I8 z then Some z else None

-- the type of these numbers, where there is one
unfoldable pub decimal_with : ℕ → ℤ → ℕ → Option DecimalValue
decimal_with precision scale width =
    unless_fault (decimal_fault precision scale width)
    (record { precision = precision; scale = scale; width = width })

-- its digits, those behind the point, and the bytes of a stored number
unfoldable pub decimal_of : Data → Option DecimalValue
decimal_of d = do
  precision ← get (codes "precision") d >>= at_most 255
  scale ← get (codes "scale") d >>= signed_byte
  width ← get (codes "width") d >>= at_most 255
  decimal_with precision scale width
