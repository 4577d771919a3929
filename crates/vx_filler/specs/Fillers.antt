-- Columns of one row that has nothing in it.
use Rattle.std.specs.Prelude.{ℕ, List, [], ◌∷◌, replicate, if◌then◌else◌}
use Rattle.vx_types.specs.Nullability.{is_nullable}
use Rattle.vx_types.specs.RowValue.{RowValue, null, bytes}
use Rattle.vx_types.specs.TypeTree.{primitive_kind}
use Rattle.vx_types.specs.declared.nullability.Nullability.{Nullability}
use Rattle.vx_types.specs.declared.ptype.PType.TheVariants.{U8}
use Rattle.vx_model.specs.Column.{Column}
use Rattle.vx_model.specs.ListView.{ListViewParts}
use Rattle.vx_model.specs.Records.{RecordParts}
use Rattle.vx_model.specs.Valid.{Valid, all_invalid, non_nullable}

-- so many records of `u8`, each 0
abbrev pub zero_numbers : ℕ → RecordParts
zero_numbers len =
    record {
      kind = primitive_kind U8;
      width = 1;
      records = replicate len (0 ∷ []);
      valid = non_nullable;
    }

-- all rows null where the type has nulls, else all there
abbrev pub valid_by : Nullability → Valid
valid_by n = if is_nullable n then all_invalid else non_nullable

-- one list of none of the elements
abbrev pub empty_views : Column → Nullability → ListViewParts
empty_views elements n =
    record {
      elements = elements;
      offsets = zero_numbers 1;
      sizes = zero_numbers 1;
      valid = valid_by n;
    }

-- the id of one row: a null where the type has nulls, else the first one
abbrev pub id_row : List ℕ → Nullability → RowValue
id_row [] n = null
id_row (id ∷ ids) n = if is_nullable n then null else bytes (id ∷ [])
