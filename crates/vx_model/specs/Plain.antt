-- Columns that store their rows one after another.
use Rattle.std.specs.Prelude.{Bool, true, false, ◌&&◌, ◌||◌}
use Rattle.vx_types.specs.declared.layout_name.LayoutName.{LayoutName}
use Rattle.vx_types.specs.declared.layout_name.LayoutName.TheVariants as layouts
use Rattle.vx_model.specs.Column.{Column}
use Rattle.vx_model.specs.Valid.{is_constant_form, is_flat_cover}

abbrev pub is_null_layout : LayoutName → Bool
is_null_layout layouts.Null = true
is_null_layout t = false

abbrev pub is_constant_layout : LayoutName → Bool
is_constant_layout layouts.Constant = true
is_constant_layout t = false

abbrev pub is_listview_layout : LayoutName → Bool
is_listview_layout layouts.ListView = true
is_listview_layout t = false

-- layouts whose rows are worked out when they are read
abbrev pub is_lazy_layout : LayoutName → Bool
is_lazy_layout layouts.Constant = true
is_lazy_layout layouts.Dict = true
is_lazy_layout layouts.Filter = true
is_lazy_layout t = false

-- layouts that store a row as a record of bytes
abbrev pub stores_records : LayoutName → Bool
stores_records layouts.Primitive = true
stores_records layouts.Decimal = true
stores_records t = false

-- layouts that store a row's bit or bytes in its place
abbrev pub is_row_layout : LayoutName → Bool
is_row_layout layouts.Bool = true
is_row_layout t = stores_records t

-- layouts that store each row in its place, or none where all are null
abbrev pub is_in_place : LayoutName → Bool
is_in_place t = is_null_layout t || is_row_layout t

-- layout `Null`; or `Bool`, `Primitive` or `Decimal`, with a validity of constant form or an array
-- of layout `Bool`
abbrev pub is_unwrapped : Column → Bool
is_unwrapped c = is_null_layout c.layout || (is_row_layout c.layout && is_flat_cover c.cover)

-- layout `Null`; or `Bool`, `Primitive` or `Decimal`, with a validity of constant form
abbrev pub is_plain : Column → Bool
is_plain c = is_null_layout c.layout || (is_row_layout c.layout && is_constant_form c.cover)
