-- The code of a primitive type: its place in a list of all.
use Rattle.std.specs.Prelude.{◌≡◌, refl, List, [], ◌∷◌}
use Rattle.std.specs.List.{slice_index_or, position_or_len}
use base.Stored.{Gv, gnum, num, Coded}
use Rattle.vx_types.specs.Code.{coded_back}
use Rattle.vx_types.specs.PType.{is_same_ptype}
use Rattle.vx_types.specs.declared.ptype.PType.{PType}
use Rattle.vx_types.specs.declared.ptype.PType.TheVariants.{U8, U16, U32, U64, I8, I16, I32, I64, F16, F32, F64}

abbrev ptypes : List PType
ptypes = U8 ∷ U16 ∷ U32 ∷ U64 ∷ I8 ∷ I16 ∷ I32 ∷ I64 ∷ F16 ∷ F32 ∷ F64 ∷ []

abbrev pub ptype_code : PType → Gv
ptype_code p = gnum (position_or_len (is_same_ptype p) ptypes)

abbrev pub ptype_back : Gv → PType
ptype_back code = slice_index_or ptypes (num code) U8

pub ptype_back_code : (p : PType) → ptype_back (ptype_code p) ≡ p
ptype_back_code U8 = refl
ptype_back_code p = refl

abbrev pub coded_ptype : Coded PType
coded_ptype = coded_back ptype_code ptype_back ptype_back_code
