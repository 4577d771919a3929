-- What the structs of the layouts of lists stand for.
use Rattle.std.specs.Prelude.{ℕ}
use Rattle.vx_model.specs.Column.{Column}
use Rattle.vx_model.specs.FixedSizeList.{FixedParts}
use Rattle.vx_model.specs.List.{ListParts}
use Rattle.vx_model.specs.ListView.{ListViewParts}
use Rattle.vx_model.specs.Records.{RecordParts}
use Rattle.vx_column.specs.Validity.{valid_of}
use Rattle.vx_column.specs.declared.validity.Validity.{Validity}

abbrev pub list_parts : Column → RecordParts → Validity → ListParts
list_parts elements offsets validity =
    record { elements = elements; offsets = offsets; valid = valid_of validity }

abbrev pub listview_parts : Column → RecordParts → RecordParts → Validity → ListViewParts
listview_parts elements offsets sizes validity =
    record { elements = elements; offsets = offsets; sizes = sizes; valid = valid_of validity }

abbrev pub fixed_parts : Column → ℕ → ℕ → Validity → FixedParts
fixed_parts elements size len validity =
    record { elements = elements; size = size; len = len; valid = valid_of validity }
