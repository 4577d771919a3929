-- Which rows of a column of bools are true.
use Rattle.std.specs.Prelude.{◌&&◌, List, map, Bool}
use Rattle.vx_model.specs.Column.{Column}
use Rattle.vx_model.specs.Valid.{is_bool_layout, is_constant_form, is_yes}

-- for each row whether it is true: a null isn't
abbrev pub true_bits : Column → List Bool
true_bits c = map is_yes c.rows

-- its layout is `Bool`, and one answer says for all rows whether they are there
abbrev pub is_plain_bools : Column → Bool
is_plain_bools c = is_bool_layout c.layout && is_constant_form c.cover
