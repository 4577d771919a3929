-- The columns of fields.
use Rattle.std.specs.Prelude.{ℕ, List, [], ◌∷◌, length}
use Rattle.vx_model.specs.Column.{Column}

-- how many rows the first of the columns has
abbrev pub first_len : List Column → ℕ
first_len [] = 0
first_len (c ∷ columns) = length c.rows
