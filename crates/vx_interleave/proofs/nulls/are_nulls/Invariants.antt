-- The columns so far are of layout `Null`, and their rows are nulls.
use Rattle.std.proofs.Common.{◌≡◌, length, replicate, take, true}
use Rattle.std.specs.List.{All}
use Rattle.vx_types.specs.RowValue.{null}
use Rattle.vx_model.specs.Column.{Column}
use Rattle.vx_model.specs.Plain.{is_null_layout}
use Rattle.vx_interleave.proofs.nulls.are_nulls.Given as goal

abbrev pub invariant-loop-column : goal.invariant-loop-column
invariant-loop-column l = record {
  layouts : All (λ (c : Column). is_null_layout c.layout ≡ true) (take l.column-index l.columns);
  rows : All (λ (c : Column). c.rows ≡ replicate (length c.rows) null) (take l.column-index l.columns);
}
