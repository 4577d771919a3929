-- Fewer nulls are what a filter keeps of them.
use Rattle.std.proofs.Common.{ap, ◌∙◌}
use Rattle.vx_model.specs.Null.{null_column}
use Rattle.vx_model.proofs.Layouts.{length-null}
use Rattle.vx_model.proofs.Steps.{is_filter-null}
use Rattle.vx_stored.proofs.null.filter_nulls.Goals as goal

pub returns : goal.returns
returns c =
    rw (c.into_array.ensures ∙ ap null_column (c.new.ensures ∙ c.true_count.ensures.count))
    (is_filter-null c.args.array.now c.args.mask.now.bits.bits (c.requires ∙ length-null c.args.array.now))
