-- Whether null rows are allowed.
use Rattle.std.specs.Prelude.{Bool, true, false}
use Rattle.vx_types.specs.declared.nullability.Nullability.{Nullability}
use Rattle.vx_types.specs.declared.nullability.Nullability.TheVariants.{NonNullable, Nullable}

abbrev pub is_nullable : Nullability → Bool
is_nullable NonNullable = false
is_nullable Nullable = true

-- nullable where one of the two is
abbrev pub either_nullable : Nullability → Nullability → Nullability
either_nullable NonNullable n = n
either_nullable Nullable n = Nullable
