-- Nulls alone.
use Rattle.std.proofs.Common.{ℕ, map, ap, sym, ◌∙◌}
use Rattle.vx_types.specs.DType.{type_of}
use Rattle.vx_types.specs.TypeTree.{null_kind}
use Rattle.vx_types.specs.declared.dtype.DType.{DType}
use Rattle.vx_model.specs.Column.{Column}
use Rattle.vx_model.specs.Null.{null_column}
use Rattle.vx_interleave.specs.Rows.{rows_in, shown_as}
use Rattle.vx_interleave.proofs.Shown.{shown_all}
use Rattle.vx_interleave.proofs.flat.gather_scalars.Goals as goal

pub returns-in-Null-clause-rows : goal.returns-in-Null-clause-rows
returns-in-Null-clause-rows c =
    let rows = rows_in c.args.cells.now in
    ap (λ (a : Column). a.rows) c.into_array.ensures ∙ ap (λ (n : ℕ). (null_column n).rows) c.new.ensures ∙ c.null_rows.ensures
    ∙ shown_all null_kind rows ∙ ap (λ (d : DType). map (shown_as (type_of d)) rows) (sym c.in-Null.is)
