-- The constructor's answer.
use Rattle.std.proofs.Common.{Some, sym, ap, ◌∙◌}
use Rattle.vx_types.specs.Scalar.{TypedRow}
use Rattle.vx_model.specs.Constant.{constant_column}
use Rattle.vx_json.proofs.Made.{made, refused}
use Rattle.vx_column_json.specs.Constant.{constant_made}
use Rattle.vx_column_json.proofs.constant.constant_made.Goals as goal

pub returns-in-Ok : goal.returns-in-Ok
unfolding constant_made
returns-in-Ok c =
    let of_scalar = λ (s : TypedRow). constant_column (record { scalar = s; len = c.args.len }) in
    let built = c.into_array.ensures ∙ ap constant_column c.new.ensures in
    made of_scalar _ _ _ (sym c.try_new.ensures ∙ c.in-Ok.is) ∙ ap Some (sym built)

pub returns-in-Err : goal.returns-in-Err
unfolding constant_made
returns-in-Err c =
    let of_scalar = λ (s : TypedRow). constant_column (record { scalar = s; len = c.args.len }) in
    refused of_scalar _ _ _ (sym c.try_new.ensures ∙ c.in-Err.is)
