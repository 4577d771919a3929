-- Nulls alone, at the places.
use Rattle.std.proofs.Common.{ℕ, ap, ◌∙◌}
use Rattle.vx_model.specs.Column.{Column}
use Rattle.vx_model.specs.Null.{null_column}
use Rattle.vx_interleave.proofs.NullRows.{nulls_at}
use Rattle.vx_interleave.proofs.interleaving.interleave.Goals as goal

pub returns-then-are_nulls-clause-rows : goal.returns-then-are_nulls-clause-rows
returns-then-are_nulls-clause-rows c =
    ap (λ (a : Column). a.rows) c.into_array.ensures ∙ ap (λ (n : ℕ). (null_column n).rows) c.new.ensures
    ∙ nulls_at c.args.columns.now c.args.order.now (c.are_nulls.ensures.rows c.if-are_nulls.true)
