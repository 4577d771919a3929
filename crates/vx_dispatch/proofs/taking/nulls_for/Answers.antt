-- So many nulls are the rows at any picks.
use Rattle.std.proofs.Common.{length, sym, ap, ◌∙◌}
use Rattle.vx_pieces.specs.Indices.{index_nullability, index_picks, index_value}
use Rattle.vx_model.specs.Null.{null_column}
use Rattle.vx_model.proofs.Takes.{is_take-null}
use Rattle.vx_dispatch.proofs.taking.nulls_for.Goals as goal

pub returns : goal.returns
returns c =
    let i = index_value c.args.indices.now in
    rw (c.into_array.ensures ∙ ap null_column (c.new.ensures ∙ sym (c.len.ensures.picks (length (null_column c.args.array.now).rows) c.requires))) (is_take-null c.args.array.now (index_picks i) (index_nullability i))
