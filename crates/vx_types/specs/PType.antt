-- The primitive types: their widths, and the numbers that their bytes spell.
use Rattle.std.specs.Prelude.{ℕ, ◌^◌, ℤ, pos, neg_ℤ, int_le, Bool, true, false, ◌&&◌, List, take, if◌then◌else◌}
use Rattle.std.specs.Int.{Width, w8, w16, w32, w64, w128, byte_len, to_le_bytes, from_le_bytes, cast_signed, cast_unsigned}
use Rattle.vx_types.specs.declared.ptype.PType.{PType}
use Rattle.vx_types.specs.declared.ptype.PType.TheVariants.{U8, U16, U32, U64, I8, I16, I32, I64, F16, F32, F64}

abbrev pub is_same_ptype : PType → PType → Bool
is_same_ptype U8 U8 = true
is_same_ptype U16 U16 = true
is_same_ptype U32 U32 = true
is_same_ptype U64 U64 = true
is_same_ptype I8 I8 = true
is_same_ptype I16 I16 = true
is_same_ptype I32 I32 = true
is_same_ptype I64 I64 = true
is_same_ptype F16 F16 = true
is_same_ptype F32 F32 = true
is_same_ptype F64 F64 = true
is_same_ptype p q = false

-- the width of the Rust type
abbrev pub int_width : PType → Width
int_width U8 = w8
int_width U16 = w16
int_width U32 = w32
int_width U64 = w64
int_width I8 = w8
int_width I16 = w16
int_width I32 = w32
int_width I64 = w64
int_width F16 = w16
int_width F32 = w32
int_width F64 = w64

-- bytes of a value
abbrev pub width : PType → ℕ
width p = byte_len (int_width p)

abbrev pub is_int : PType → Bool
is_int F16 = false
is_int F32 = false
is_int F64 = false
is_int p = true

abbrev pub is_signed : PType → Bool
is_signed I8 = true
is_signed I16 = true
is_signed I32 = true
is_signed I64 = true
is_signed p = false

-- the number that a record's bytes spell, the lowest first, in two's complement where the type is
-- signed
abbrev pub number : PType → List ℕ → ℤ
number p bytes =
    if is_signed p then cast_signed (int_width p) (from_le_bytes (int_width p) bytes)
    else pos (from_le_bytes (int_width p) bytes)

-- the least number of the type
abbrev pub least : PType → ℤ
least U8 = pos 0
least U16 = pos 0
least U32 = pos 0
least U64 = pos 0
least I8 = neg_ℤ (pos (2 ^ 7))
least I16 = neg_ℤ (pos (2 ^ 15))
least I32 = neg_ℤ (pos (2 ^ 31))
least I64 = neg_ℤ (pos (2 ^ 63))
least p = pos 0

-- the greatest
abbrev pub greatest : PType → ℤ
greatest U8 = pos 255
greatest U16 = pos 65535
greatest U32 = pos 4294967295
greatest U64 = pos 18446744073709551615
greatest I8 = pos 127
greatest I16 = pos 32767
greatest I32 = pos 2147483647
greatest I64 = pos 9223372036854775807
greatest p = pos 0

abbrev pub is_in_range : PType → ℤ → Bool
is_in_range p z = is_int p && (int_le (least p) z && int_le z (greatest p))

-- the lowest w bytes of a number in two's complement, the lowest first
unfoldable pub record_of : ℕ → ℤ → List ℕ
record_of w z = take w (to_le_bytes w128 (cast_unsigned w128 z))
