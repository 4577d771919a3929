-- What a JSON value means as a column of one of the layouts of lists.
use Rattle.std.specs.Prelude.{ℕ, List, if◌then◌else◌, Option, None, codes, bytes_eq}
use Rattle.serde_json.specs.Data.{Data}
use Rattle.vx_model.specs.Column.{Column}
use Rattle.vx_model.specs.Valid.{Valid}
use Rattle.vx_column_json.specs.List.{list_by}
use Rattle.vx_column_json.specs.ListView.{listview_by}
use Rattle.vx_column_json.specs.FixedSizeList.{fixed_by}

-- by the name of a layout
abbrev pub lists_by : Data → Column → Valid → List ℕ → Option Column
lists_by d elements valid layout =
    if bytes_eq layout (codes "List") then list_by d elements valid
    else if bytes_eq layout (codes "ListView") then listview_by d elements valid
    else if bytes_eq layout (codes "FixedSizeList") then fixed_by d elements valid
    else None
