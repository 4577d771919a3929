-- What JSON values mean as values of a type: their records.
use Rattle.std.specs.Prelude.{ℕ, pos, List, map, replicate, if◌then◌else◌, Option, Some, None, codes, bytes_eq}
use Rattle.std.specs.List.{range_with_len}
use Rattle.std.specs.Result.{result_ok}
use Rattle.serde_json.specs.Data.{Data}
use Rattle.serde_json.specs.Find.{as_number, as_integer, as_str}
use Rattle.hex.specs.Hex.{decode_sized}
use Rattle.vx_types.specs.PType.{width, is_int, is_in_range, record_of}
use Rattle.vx_types.specs.declared.ptype.PType.{PType}
use Rattle.vx_types.specs.declared.ptype.PType.TheVariants.{U8, U16, U32, U64, I8, I16, I32, I64, F16, F32, F64}
use Rattle.vx_json.specs.Meaning.{◌>>=◌}
use Rattle.vx_json.specs.Bools.{is_there}

unfoldable pub float_named : List ℕ → Option PType
float_named s =
    if bytes_eq s (codes "f16") then Some F16
    else (if bytes_eq s (codes "f32") then Some F32
    else (if bytes_eq s (codes "f64") then Some F64 else None))

unfoldable pub ptype_named : List ℕ → Option PType
ptype_named s =
    if bytes_eq s (codes "u8") then Some U8
    else (if bytes_eq s (codes "u16") then Some U16
    else (if bytes_eq s (codes "u32") then Some U32
    else (if bytes_eq s (codes "u64") then Some U64
    else (if bytes_eq s (codes "i8") then Some I8
    else (if bytes_eq s (codes "i16") then Some I16
    else (if bytes_eq s (codes "i32") then Some I32
    else (if bytes_eq s (codes "i64") then Some I64 else float_named s)))))))

-- a whole number in the type's range, as its record of w bytes
unfoldable pub whole_record : ℕ → PType → Data → Option (List ℕ)
whole_record w p d = do
  n ← as_number d
  z ← as_integer n
  if is_in_range p z then Some (record_of w z) else None

-- a text of 2 * w hexadecimal digits, as the w bytes that they spell
unfoldable pub hex_record : ℕ → Data → Option (List ℕ)
hex_record w d = do
  text ← as_str d
  result_ok (decode_sized text w)

-- what f gives of a value; `null` stands for w bytes that are zero
abbrev pub or_zero : ℕ → (Data → Option (List ℕ)) → Data → Option (List ℕ)
or_zero w f d = if is_there d then f d else Some (replicate w 0)

-- a whole number of the type, or else digits of a floating one, as a record of w bytes; or `null`
abbrev pub value_or_zero : ℕ → PType → Data → Option (List ℕ)
value_or_zero w p = or_zero w (if is_int p then whole_record w p else hex_record w)

-- digits of a record of w bytes, or `null`
abbrev pub hex_or_zero : ℕ → Data → Option (List ℕ)
hex_or_zero w = or_zero w (hex_record w)

-- the numbers from 0 on, each as the lowest bits of its record
abbrev pub ramp_records : PType → ℕ → List (List ℕ)
ramp_records p n = map (λ i. record_of (width p) (pos i)) (range_with_len 0 n)
