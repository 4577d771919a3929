-- Fewer rows of one value are what a filter keeps of them.
use Rattle.std.proofs.Common.{ℕ, ap, ap₂, ◌∙◌}
use Rattle.vx_model.specs.Constant.{constant_column}
use Rattle.vx_model.proofs.LazyRows.{length-constant}
use Rattle.vx_model.proofs.ConstantSteps.{is_filter-constant}
use Rattle.vx_types.specs.Scalar.{TypedRow}
use Rattle.vx_stored.proofs.constant_steps.filter_constant.Goals as goal

pub returns : goal.returns
returns c =
    let p = c.args.array.now in
    let value = c.share.ensures ∙ c.scalar.ensures in
    rw (c.into_array.ensures ∙ ap constant_column (c.new.ensures ∙ ap₂ (λ (x : TypedRow) (n : ℕ). record { scalar = x; len = n }) value c.true_count.ensures.count))
    (is_filter-constant p c.args.mask.now.bits.bits (c.requires ∙ length-constant p))
