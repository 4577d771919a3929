-- The columns from this one on decide.
use Rattle.std.proofs.Common.{◌≡◌, length, drop}
use Rattle.std.specs.Prelude.{◌==◌, not}
use Rattle.std.specs.List.{position_from}
use Rattle.vx_model.specs.Column.{Column}
use Rattle.vx_table.proofs.table.first_of_other_length.Given as goal

abbrev pub invariant-loop-i : goal.invariant-loop-i
invariant-loop-i l =
    position_from (λ (c : Column). not (length c.rows == l.len)) 0 l.columns ≡ position_from (λ (c : Column). not (length c.rows == l.len)) l.i (drop l.i l.columns)
