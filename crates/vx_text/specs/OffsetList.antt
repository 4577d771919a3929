-- Offsets in a list that widens.
use Rattle.std.specs.Prelude.{ℕ, ◌+◌, ◌-◌, ◌++◌, List, [], ◌∷◌, map, nat_le, Bool, true, false, slice_index, if◌then◌else◌}
use Rattle.std.specs.List.{range_with_len}
use Rattle.std.specs.Int.{w32, w64, from_le_bytes}
use Rattle.vx_types.specs.PType.{is_signed}
use Rattle.vx_types.specs.declared.ptype.PType.{PType}
use Rattle.vx_types.specs.declared.ptype.PType.TheVariants.{U32, U64, I32, I64}
use Rattle.vx_offsets.specs.Offsets.{offset_positions, record_numbers}
use Rattle.vx_text.specs.declared.offsets.OffsetRecords.{OffsetRecords}
use Rattle.vx_text.specs.declared.offsets.OffsetRecords.TheVariants.{Narrow, Wide}

-- what a contract sees of an `Offsets`
pub record OffsetList : Type 0 where
  pub ptype : PType
  pub numbers : List ℕ

-- the narrowest type of offsets for a type: 64 bits for one of 64, else 32
abbrev pub first_type : PType → PType
first_type I64 = I64
first_type U64 = U64
first_type p = if is_signed p then I32 else U32

-- the greatest offset of a type
abbrev pub greatest_offset : PType → ℕ
greatest_offset I32 = 2147483647
greatest_offset U32 = 4294967295
greatest_offset p = 9223372036854775807

-- the type of 64 bits that is as signed
abbrev pub wide_type : PType → PType
wide_type p = if is_signed p then I64 else U64

-- one offset more, in a type that has it
abbrev pub with_offset : OffsetList → ℕ → OffsetList
with_offset offsets n =
    record {
      ptype =
          if nat_le n (greatest_offset offsets.ptype) then offsets.ptype
          else wide_type offsets.ptype;
      numbers = offsets.numbers ++ n ∷ [];
    }

-- what the records spell
abbrev pub numbers_of : OffsetRecords → List ℕ
numbers_of (Narrow records) = map (from_le_bytes w32) records.items
numbers_of (Wide records) = map (from_le_bytes w64) records.items

-- their type
abbrev pub type_by : Bool → OffsetRecords → PType
type_by true (Narrow records) = I32
type_by true (Wide records) = I64
type_by false (Narrow records) = U32
type_by false (Wide records) = U64

abbrev pub offset_list : Bool → OffsetRecords → OffsetList
offset_list signed records = record { ptype = type_by signed records; numbers = numbers_of records }

abbrev pub is_wide : OffsetRecords → Bool
is_wide (Narrow records) = false
is_wide (Wide records) = true

abbrev pub stored_records : OffsetRecords → List (List ℕ)
stored_records (Narrow records) = records.items
stored_records (Wide records) = records.items

abbrev pub stored_width : OffsetRecords → ℕ
stored_width (Narrow records) = 4
stored_width (Wide records) = 8

-- the offsets that records of a type spell
abbrev pub offsets_by : PType → List (List ℕ) → List ℕ
offsets_by p records = offset_positions (record_numbers p records)

-- where the rows of a run end, if their bytes stand behind `base` others
abbrev pub run_ends : List ℕ → ℕ → ℕ → ℕ → List ℕ
run_ends offsets base start end =
    map (λ i. base + (slice_index offsets i - slice_index offsets start))
    (range_with_len (start + 1) (end - start))
