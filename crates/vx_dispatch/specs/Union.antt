-- What a slice and a take leave of a union's parts, as `IsUnionFilter` has it of a filter.
use Rattle.std.specs.Prelude.{◌≡◌, ◌<◌, ℕ, List, length, slice_range, Option, IsSome, IsNone}
use Rattle.std.specs.Option.{option_map}
use Rattle.vx_types.specs.RowValue.{null}
use Rattle.vx_types.specs.declared.nullability.Nullability.{Nullability}
use Rattle.vx_take.specs.Picks.{at}
use Rattle.vx_model.specs.Columns.{AreCuts, AreSteps, firsts_for_nulls}
use Rattle.vx_model.specs.Records.{RecordParts, records_with}
use Rattle.vx_model.specs.Step.{IsSlice, IsTake}
use Rattle.vx_model.specs.Union.{UnionParts}
use Rattle.vx_model.specs.Valid.{non_nullable}
use Rattle.vx_stored.specs.Records.{zero_record}

-- the offsets from start to end, of the same type
abbrev pub offsets_between : ℕ → ℕ → RecordParts → RecordParts
offsets_between start end offsets =
    records_with offsets (slice_range offsets.records start end) non_nullable

-- a has the ids and the offsets of p from start to end; and its columns where it is dense, else
-- their rows there
pub record IsUnionSlice (p : UnionParts) (start end : ℕ) (a : UnionParts) : Type 0 where
  pub ids : IsSlice p.ids start end a.ids
  pub offsets : a.offsets ≡ option_map (offsets_between start end) p.offsets
  pub dense : IsSome p.offsets → a.columns ≡ p.columns
  pub sparse : IsNone p.offsets → AreCuts (λ rows. slice_range rows start end) p.columns a.columns

-- the offsets at the picks, and 0 at a null, of the same type
abbrev pub offsets_at : List (Option ℕ) → RecordParts → RecordParts
offsets_at picks offsets =
    records_with offsets (at (zero_record offsets.width) offsets.records picks) non_nullable

-- a has the ids of p at the picks, null at a null, and its offsets there, 0 at a null; and its
-- columns where it is dense, else, where there is a row, their rows there, row 0 at a null
pub record IsUnionTake (p : UnionParts) (picks : List (Option ℕ)) (n : Nullability) (a : UnionParts)
    : Type 0 where
  pub ids : IsTake p.ids picks n a.ids
  pub offsets : a.offsets ≡ option_map (offsets_at picks) p.offsets
  pub dense : IsSome p.offsets → a.columns ≡ p.columns
  pub sparse : IsNone p.offsets
      → 0 < length p.ids.rows
      → AreSteps (λ rows. at null rows (firsts_for_nulls picks)) p.columns a.columns
