-- The bytes of a header.
use Rattle.std.proofs.Common.{◌≡◌, ℕ, ◌+◌, ◌^◌, ◌<◌, ◌≤◌, true, List, ◌∷◌, ◌++◌, length, get_or, take, drop, refl, sym, ap, ap₂, ◌∙◌, arith}
use Rattle.std.specs.Prelude.{codes}
use Rattle.std.specs.Int.{from_le_bytes, to_le_bytes, w64}
use Rattle.std.proofs.lemmas.List.{drop_more, take-append-drop}
use Rattle.std.proofs.lemmas.Nat.{from_le_bytes-to_le_bytes_8}
use Rattle.vx_types.specs.declared.ptype.PType.{PType}
use Rattle.vx_types.specs.declared.ptype.PType.TheVariants.{U8, U16, U32, U64, I8, I16, I32, I64, F16, F32, F64}
use Rattle.vx_file.specs.Shape.{ShapeValue, header, is_unsigned, type_byte}

pub length-header : (s : ShapeValue) → length (header s) ≡ 17
unfolding header
length-header s = refl

pub header_front : (s : ShapeValue) → take 8 (header s) ≡ codes "VXCOL001"
unfolding header
header_front s = refl

pub header_type : (s : ShapeValue) → get_or (header s) 8 0 ≡ type_byte s.ptype
unfolding header
header_type s = refl

pub header_len : (s : ShapeValue) → drop 9 (header s) ≡ to_le_bytes w64 s.len
unfolding header
header_len s = refl

pub type_small : (p : PType) → is_unsigned p ≡ true → type_byte p ≤ 3
type_small U8 h = omega arith
type_small U16 h = omega arith
type_small U32 h = omega arith
type_small U64 h = omega arith
type_small I8 h = cc
type_small I16 h = cc
type_small I32 h = cc
type_small I64 h = cc
type_small F16 h = cc
type_small F32 h = cc
type_small F64 h = cc

-- two numbers with the same bytes are the same
pub len_same : (a b : ℕ) → a < 2 ^ 64 → b < 2 ^ 64 → to_le_bytes w64 a ≡ to_le_bytes w64 b → a ≡ b
len_same a b p q e = sym (from_le_bytes-to_le_bytes_8 a p) ∙ ap (from_le_bytes w64) e ∙ from_le_bytes-to_le_bytes_8 b q

-- bytes of these parts are the header
pub header_is : (bytes : List ℕ) (s : ShapeValue) → length bytes ≡ 17 → take 8 bytes ≡ codes "VXCOL001" → type_byte s.ptype ≡ get_or bytes 8 0 → to_le_bytes w64 s.len ≡ drop 9 bytes → bytes ≡ header s
unfolding header
header_is bytes s long front kind len =
    sym (take-append-drop 8 bytes)
    ∙ ap₂ ◌++◌ front (drop_more bytes 8 0 (omega arith) ∙ sym (ap₂ ◌∷◌ kind len))
