-- Layout `Constant`: one value for every row.
use Rattle.std.specs.Prelude.{ℕ, replicate, Some, refl}
use Rattle.std.specs.Coded.{Coded, code_by, coded×, coded_ℕ}
use Rattle.vx_types.specs.Scalar.{TypedRow, coded_typed_row}
use Rattle.vx_types.specs.declared.layout_name.LayoutName.TheVariants.{Constant}
use Rattle.vx_model.specs.Column.{Column, bare_column}

-- what a contract sees of a `ConstantArray`
pub record ConstantParts : Type 0 where
  pub scalar : TypedRow
  pub len : ℕ

-- the value for each row
abbrev pub constant_column : ConstantParts → Column
constant_column p =
    record (bare_column p.scalar.dtype (replicate p.len p.scalar.row) Constant 1) {
      constant = Some p.scalar.row;
    }

-- the value for `len` rows: what a step leaves
abbrev pub constant_with : ConstantParts → ℕ → ConstantParts
constant_with p len = record p { len = len }

abbrev pub coded_constant : Coded ConstantParts
coded_constant =
    code_by (TypedRow × ℕ) (coded× coded_typed_row coded_ℕ) (λ p. (p.scalar, p.len))
    (λ f. record { scalar = f.0; len = f.1 }) (λ _. refl)
