-- The code of a nullability.
use Rattle.std.specs.Prelude.{◌≡◌, zero, suc, refl}
use base.Stored.{Gv, gnil, gnum, gcons, Coded}
use Rattle.vx_types.specs.Code.{coded_back}
use Rattle.vx_types.specs.declared.nullability.Nullability.{Nullability}
use Rattle.vx_types.specs.declared.nullability.Nullability.TheVariants.{NonNullable, Nullable}

abbrev pub nullability_code : Nullability → Gv
nullability_code NonNullable = gnum 0
nullability_code Nullable = gnum 1

abbrev pub nullability_back : Gv → Nullability
nullability_back gnil = NonNullable
nullability_back (gnum zero) = NonNullable
nullability_back (gnum (suc n)) = Nullable
nullability_back (gcons a b) = NonNullable

pub nullability_back_code : (n : Nullability) → nullability_back (nullability_code n) ≡ n
nullability_back_code NonNullable = refl
nullability_back_code Nullable = refl

abbrev pub coded_nullability : Coded Nullability
coded_nullability = coded_back nullability_code nullability_back nullability_back_code
