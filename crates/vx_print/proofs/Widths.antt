-- How wide records are.
use Rattle.std.proofs.Common.{◌≡◌, ℕ, ◌≤◌, ℤ, Bool, true, false, ◌&&◌, Some, None, cond, refl, lit≤, arith}
use Rattle.std.proofs.lemmas.Bool.{and_parts}
use Rattle.std.proofs.lemmas.Bool.Decides.{nat_tests}
use Rattle.vx_types.specs.Decimal.{decimal_fault, is_precision, is_scale, is_width}
use Rattle.vx_types.specs.PType.{width}
use Rattle.vx_types.specs.declared.ptype.PType.{PType}
use Rattle.vx_types.specs.declared.ptype.PType.TheVariants.{U8, U16, U32, U64, I8, I16, I32, I64, F16, F32, F64}

pub width_short : (p : PType) → width p ≤ 8
width_short U8 = lit≤ tt
width_short U16 = lit≤ tt
width_short U32 = lit≤ tt
width_short U64 = lit≤ tt
width_short I8 = lit≤ tt
width_short I16 = lit≤ tt
width_short I32 = lit≤ tt
width_short I64 = lit≤ tt
width_short F16 = lit≤ tt
width_short F32 = lit≤ tt
width_short F64 = lit≤ tt

-- none of two faults
no_fault : {E : Type 0} (a b : Bool) (x y : E) → cond a (cond b None (Some x)) (Some y) ≡ None → b ≡ true
no_fault true true x y h = refl
no_fault true false x y h = cc
no_fault false b x y h = cc

width_listed : (w : ℕ) → is_width w ≡ true → w ≤ 32
width_listed w h = grind (arith, nat_tests)

pub decimal_short : (p : ℕ) (s : ℤ) (w : ℕ) → decimal_fault p s w ≡ None → w ≤ 32
decimal_short p s w h = width_listed w (and_parts _ _ (no_fault (is_precision p && is_scale s) _ _ _ h)).0
