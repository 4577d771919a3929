-- The places are those of rows of the columns.
use Rattle.std.proofs.Common.{ℕ, ap, ◌∙◌, subst, sym}
use Rattle.vx_types.specs.DType.{type_of}
use Rattle.vx_model.specs.Column.{Column}
use Rattle.vx_model.specs.Null.{null_column}
use Rattle.vx_interleave.specs.Sources.{ArePlacesFor, rows_of}
use Rattle.vx_interleave.proofs.NullRows.{nulls_joined}
use Rattle.vx_interleave.proofs.joining.concatenate.Goals as goal

pub interleave-requires-clause-places : goal.interleave-requires-clause-places
interleave-requires-clause-places c =
    let t = type_of c.args.dtype.now in
    subst (ArePlacesFor t (rows_of c.args.columns.now)) (sym c.deref.ensures.value) (c.in_ok-order.ensures.places t)

-- nulls alone, as many as there are rows
pub returns-in-Some-clause-rows : goal.returns-in-Some-clause-rows
returns-in-Some-clause-rows c =
    ap (λ (a : Column). a.rows) c.into_array.ensures ∙ ap (λ (n : ℕ). (null_column n).rows) (c.new.ensures ∙ c.in-Some.ensures.1)
    ∙ nulls_joined c.args.columns.now (c.are_nulls.ensures.rows c.if-are_nulls.true)
