-- The bit or the bytes that are stored for a value.
use Rattle.std.specs.Prelude.{ℕ, ◌^◌, nat_lt, Bool, false, List, length, Option, Some, None, replicate, if◌then◌else◌}
use Rattle.vx_types.specs.RowValue.{RowValue, bit, bytes}
use Rattle.vx_types.specs.TypeTree.{TypeKind, kind_width}
use Rattle.vx_types.specs.declared.layout_name.LayoutName.{LayoutName}
use Rattle.vx_types.specs.declared.layout_name.LayoutName.TheVariants.{VarBin, VarBinView}
use Rattle.vx_model.specs.Column.{Column}
use Rattle.vx_model.specs.Valid.{Valid}
use Rattle.vx_model.specs.Bool.{bool_column, bool_with}
use Rattle.vx_model.specs.Records.{records_column}
use Rattle.vx_stored.specs.Records.{zero_record}

-- the bit of a value; false for a null
abbrev pub bit_or_false : RowValue → Bool
bit_or_false (bit b) = b
bit_or_false x = false

-- the bytes of a value; w zeros for a null
abbrev pub bytes_or_zeros : ℕ → RowValue → List ℕ
bytes_or_zeros w (bytes b) = b
bytes_or_zeros w x = zero_record w

-- the layout of copies of a text: views of it, where its length fits a view
abbrev pub text_layout : RowValue → LayoutName
text_layout x = if nat_lt (length (bytes_or_zeros 0 x)) (2 ^ 32) then VarBinView else VarBin

-- n copies of a value's bit or bytes, as a column of a type that has such
abbrev pub copied_bits : RowValue → ℕ → Valid → Column
copied_bits x n v = bool_column (bool_with (replicate n (bit_or_false x)) 0 v)

-- as many bytes as the kind says
abbrev pub width_or_none : Option ℕ → ℕ
width_or_none None = 0
width_or_none (Some w) = w

abbrev pub copied_records : TypeKind → RowValue → ℕ → Valid → Column
copied_records k x n v =
    let w = width_or_none (kind_width k) in
    records_column (record {
      kind = k;
      width = w;
      records = replicate n (bytes_or_zeros w x);
      valid = v;
    })
