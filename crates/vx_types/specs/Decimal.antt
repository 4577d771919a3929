-- Decimal types: how many digits, how many of them behind the point, and the stored bytes.
use Rattle.std.specs.Prelude.{ℕ, ℤ, pos, neg_ℤ, int_le, nat_le, Bool, ◌&&◌, ◌==◌, [], ◌∷◌, Option, Some, None, if◌then◌else◌, refl}
use Rattle.std.specs.Coded.{Coded, code_by, coded×, coded_ℕ, coded_ℤ}
use Rattle.std.specs.List.{list_any}
use Rattle.vx_types.specs.declared.error.ColumnError.{ColumnError}
use Rattle.vx_types.specs.declared.error.ColumnError.TheVariants.{WrongType, WrongWidth}

-- what a contract sees of a `DecimalDType`
pub record DecimalValue : Type 0 where
  pub precision : ℕ
  pub scale : ℤ
  -- bytes of a stored number
  pub width : ℕ

abbrev pub is_precision : ℕ → Bool
is_precision precision = nat_le 1 precision && nat_le precision 76

abbrev pub is_scale : ℤ → Bool
is_scale scale = int_le (neg_ℤ (pos 76)) scale && int_le scale (pos 76)

-- the widths of records
abbrev pub is_width : ℕ → Bool
is_width width = list_any (λ w. w == width) (1 ∷ 2 ∷ 4 ∷ 8 ∷ 16 ∷ 32 ∷ [])

-- the fewest bytes that hold every number of so many digits
abbrev pub least_width : ℕ → ℕ
least_width precision =
    if nat_le precision 2 then 1
    else if nat_le precision 4 then 2
    else if nat_le precision 9 then 4
    else if nat_le precision 18 then 8
    else if nat_le precision 38 then 16
    else 32

-- why there is no such type, the first that holds
abbrev pub decimal_fault : ℕ → ℤ → ℕ → Option ColumnError
decimal_fault precision scale width =
    if is_precision precision && is_scale scale then
    (if is_width width && nat_le (least_width precision) width then None else Some WrongWidth)
    else Some WrongType

-- ---- its code
abbrev pub coded_decimal : Coded DecimalValue
coded_decimal =
    code_by (ℕ × (ℕ × ℤ)) (coded× coded_ℕ (coded× coded_ℕ coded_ℤ))
    (λ d. (d.precision, (d.width, d.scale)))
    (λ f. record { precision = f.0; width = f.1.0; scale = f.1.1 })
    (λ _. refl)
