-- Layout `Bool`: a bit a row.
use Rattle.std.specs.Prelude.{ℕ, length, List, [], Bool, map, Option, Some, None, if◌then◌else◌, refl}
use Rattle.std.specs.Coded.{Coded, code_by, coded×, coded_ℕ, coded_bool, coded_list}
use Rattle.vx_bits.specs.BitBuffer.{PlacedBits}
use Rattle.vx_types.specs.TypeTree.{bool_kind}
use Rattle.vx_types.specs.RowValue.{bit}
use Rattle.vx_types.specs.declared.layout_name.LayoutName.TheVariants.{Bool as BoolLayout}
use Rattle.vx_types.specs.declared.error.ColumnError.{ColumnError}
use Rattle.vx_types.specs.declared.error.ColumnError.TheVariants.{BadValidity}
use Rattle.vx_model.specs.Column.{Column}
use Rattle.vx_model.specs.Valid.{Valid, non_nullable, is_fitting}
use Rattle.vx_model.specs.ValidCode.{coded_valid}
use Rattle.vx_model.specs.Stored.{StoredParts, stored_column}

-- what a contract sees of a `BoolArray`
pub record BoolParts : Type 0 where
  pub bits : PlacedBits
  pub valid : Valid

-- why they are no column
abbrev pub bool_fault : BoolParts → Option ColumnError
bool_fault p = if is_fitting p.valid (length p.bits.bits) then None else Some BadValidity

-- a row is its bit, or null where the validity says no
abbrev pub stored_bits : BoolParts → StoredParts
stored_bits p =
    record {
      layout = BoolLayout;
      kind = bool_kind;
      items = map bit p.bits.bits;
      records = [];
      inner = 0;
      valid = p.valid;
    }

abbrev pub bool_column : BoolParts → Column
bool_column p = stored_column (stored_bits p)

-- parts of other bits and another validity: what a step leaves
abbrev pub bool_with : List Bool → ℕ → Valid → BoolParts
bool_with bits offset valid =
    record { bits = record { bits = bits; offset = offset }; valid = valid }

-- the column of these bits, none of them null
abbrev pub bits_column : List Bool → ℕ → Column
bits_column bits offset = bool_column (bool_with bits offset non_nullable)

abbrev pub coded_bools : Coded BoolParts
coded_bools =
    code_by ((List Bool × ℕ) × Valid) (coded× (coded× (coded_list coded_bool) coded_ℕ) coded_valid)
    (λ p. ((p.bits.bits, p.bits.offset), p.valid))
    (λ f. record { bits = record { bits = f.0.0; offset = f.0.1 }; valid = f.1 })
    (λ _. refl)
