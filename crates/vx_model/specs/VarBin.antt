-- Layout `VarBin`: texts that stand one after another, cut by offsets.
use Rattle.std.specs.Prelude.{ℕ, ◌-◌, ◌&&◌, Bool, true, false, length, List, Option, Some, None, if◌then◌else◌, refl}
use Rattle.std.specs.Coded.{Coded, code_by, coded×, coded_ℕ, coded_list}
use Rattle.vx_types.specs.TypeTree.{is_int_kind}
use Rattle.vx_types.specs.contracts.text.TextKind.{the_row}
use Rattle.vx_types.specs.declared.layout_name.LayoutName.TheVariants.{VarBin}
use Rattle.vx_types.specs.declared.text.TextKind.{TextKind}
use Rattle.vx_types.specs.declared.error.ColumnError.{ColumnError}
use Rattle.vx_types.specs.declared.error.ColumnError.TheVariants.{WrongType, BadValidity, BadOffsets}
use Rattle.vx_offsets.specs.Offsets.{are_offsets, offset_positions, lists_at}
use Rattle.vx_model.specs.Column.{Column}
use Rattle.vx_model.specs.Valid.{Valid, non_nullable, all_valid, all_invalid, by_column, is_fitting}
use Rattle.vx_model.specs.ValidCode.{coded_valid}
use Rattle.vx_model.specs.Numbers.{integers_of}
use Rattle.vx_model.specs.Records.{RecordParts, coded_records}
use Rattle.vx_model.specs.Text.{TextParts, text_column}

-- what a contract sees of a `VarBinArray`
pub record VarBinParts : Type 0 where
  pub kind : TextKind
  -- one more than rows
  pub offsets : RecordParts
  -- the texts, one after another
  pub bytes : List ℕ
  pub valid : Valid

abbrev pub is_never_null : Valid → Bool
is_never_null non_nullable = true
is_never_null all_valid = false
is_never_null all_invalid = false
is_never_null (by_column c) = false

-- a non-nullable column of integers
abbrev pub are_integers : RecordParts → Bool
are_integers p = is_int_kind p.kind && is_never_null p.valid

-- one row fewer than offsets, and none where there is no offset
abbrev pub row_count : RecordParts → ℕ
row_count offsets = length offsets.records - 1

-- why they are no column, the first that holds
abbrev pub varbin_fault : VarBinParts → Option ColumnError
varbin_fault p =
    if are_integers p.offsets then
    (if is_fitting p.valid (row_count p.offsets) then
    (if are_offsets (integers_of p.offsets) (length p.bytes) then None else Some BadOffsets)
    else Some BadValidity)
    else Some WrongType

-- the text of a row goes from its offset up to the next
abbrev pub varbin_texts : VarBinParts → TextParts
varbin_texts p =
    record {
      layout = VarBin;
      kind = p.kind;
      texts = lists_at (offset_positions (integers_of p.offsets)) p.bytes;
      valid = p.valid;
    }

abbrev pub varbin_column : VarBinParts → Column
varbin_column p = text_column (varbin_texts p)

abbrev Fields : Type 0
Fields = (TextKind × RecordParts) × (List ℕ × Valid)

abbrev pub coded_varbin : Coded VarBinParts
coded_varbin =
    code_by Fields
    (coded× (coded× the_row.coded coded_records) (coded× (coded_list coded_ℕ) coded_valid))
    (λ p. ((p.kind, p.offsets), (p.bytes, p.valid)))
    (λ f. record { kind = f.0.0; offsets = f.0.1; bytes = f.1.0; valid = f.1.1 })
    (λ _. refl)
