-- The header of a file, and what it states.
use Rattle.std.specs.Prelude.{◌≡◌, ◌≢◌, ℕ, ◌≤◌, ◌&&◌, not, Bool, true, List, ◌∷◌, ◌++◌, codes}
use Rattle.std.specs.Int.{to_le_bytes, w64}
use Rattle.std.specs.Coded.{Coded, code_by, coded×, coded_ℕ}
use Rattle.std.proofs.Common.{refl}
use Rattle.vx_types.specs.PType.{is_int, is_signed}
use Rattle.vx_types.specs.PTypeCode.{coded_ptype}
use Rattle.vx_types.specs.TypeTree.{TypeTree, primitive_type}
use Rattle.vx_types.specs.declared.nullability.Nullability.TheVariants.{NonNullable}
use Rattle.vx_types.specs.declared.ptype.PType.{PType}
use Rattle.vx_types.specs.declared.ptype.PType.TheVariants.{U8, U16, U32, U64}

-- the type of the rows, and how many there are
pub record ShapeValue : Type 0 where
  pub ptype : PType
  pub len : ℕ

abbrev pub is_unsigned : PType → Bool
is_unsigned p = is_int p && not (is_signed p)

-- rows are unsigned, and at most 2 ^ 24
pub record IsShape (s : ShapeValue) : Type 0 where
  pub unsigned : is_unsigned s.ptype ≡ true
  pub short : s.len ≤ 16777216

-- the byte that stands for an unsigned type
abbrev pub type_byte : PType → ℕ
type_byte U8 = 0
type_byte U16 = 1
type_byte U32 = 2
type_byte U64 = 3
type_byte p = 255

-- the bytes of a header
unfoldable pub header : ShapeValue → List ℕ
header s = codes "VXCOL001" ++ type_byte s.ptype ∷ to_le_bytes w64 s.len

-- the bytes are no header
abbrev pub IsNoHeader : List ℕ → Type 0
IsNoHeader bytes = (s : ShapeValue) → IsShape s → bytes ≢ header s

-- the type of the rows, which are never null
abbrev pub row_type : ShapeValue → TypeTree
row_type s = primitive_type s.ptype NonNullable

-- ---- its code

abbrev pub coded_shape : Coded ShapeValue
coded_shape =
    code_by (PType × ℕ) (coded× coded_ptype coded_ℕ) (λ s. (s.ptype, s.len))
    (λ f. record { ptype = f.0; len = f.1 }) (λ _. refl)
