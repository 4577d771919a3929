-- Layout `Filter`: the rows of a child at the set positions of a mask.
use Rattle.std.specs.Prelude.{ℕ, ◌+◌, ◌==◌, length, Option, Some, None, if◌then◌else◌, refl}
use Rattle.std.specs.List.{items_where_true}
use Rattle.std.specs.Coded.{Coded, code_by, coded×}
use Rattle.vx_mask.specs.Mask.{mask_bits}
use Rattle.vx_mask.specs.contracts.mask.Mask.{the_row}
use Rattle.vx_mask.specs.declared.mask.Mask.{Mask}
use Rattle.vx_types.specs.declared.layout_name.LayoutName.TheVariants.{Filter}
use Rattle.vx_types.specs.declared.error.ColumnError.{ColumnError}
use Rattle.vx_types.specs.declared.error.ColumnError.TheVariants.{WrongLength}
use Rattle.vx_model.specs.Column.{Column, bare_column}
use Rattle.vx_model.specs.ColumnCode.{coded_column}

-- what a contract sees of a `FilterArray`
pub record FilterParts : Type 0 where
  pub child : Column
  -- which of its rows
  pub mask : Mask

-- why they are no column
abbrev pub filter_fault : FilterParts → Option ColumnError
filter_fault p =
    if length (mask_bits p.mask) == length p.child.rows then None else Some WrongLength

-- nested in the child
abbrev pub filter_size : FilterParts → ℕ
filter_size p = p.child.depth + 1

abbrev pub filter_column : FilterParts → Column
filter_column p =
    record (bare_column p.child.dtype (items_where_true (mask_bits p.mask) p.child.rows) Filter
    (filter_size p + 1)) {
      dense = p.child.dense;
    }

abbrev pub coded_filter : Coded FilterParts
coded_filter =
    code_by (Column × Mask) (coded× coded_column the_row.coded)
    (λ p. (p.child, p.mask)) (λ f. record { child = f.0; mask = f.1 }) (λ _. refl)
