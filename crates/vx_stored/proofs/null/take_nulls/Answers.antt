-- So many nulls are the rows at any picks.
use Rattle.std.proofs.Common.{◌∙◌, ap}
use Rattle.vx_model.specs.Null.{null_column}
use Rattle.vx_model.proofs.Takes.{is_take-null}
use Rattle.vx_stored.proofs.null.take_nulls.Goals as goal

pub returns : goal.returns
returns c =
    rw (c.into_array.ensures ∙ ap null_column (c.new.ensures ∙ c.len.ensures)) (is_take-null c.args.array.now c.args.picks.now.picks c.args.nullability)
