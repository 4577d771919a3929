-- By the kind of the step.
use Rattle.std.proofs.Common.{ap, ◌∙◌}
use Rattle.vx_mask.specs.Mask.{mask_bits}
use Rattle.vx_column.specs.Truth.{true_bits}
use Rattle.vx_steps.specs.Step.{step_value}
use Rattle.vx_paging.proofs.Needing.{by-column, by-mask, by-slice, part_of}
use Rattle.vx_paging.proofs.needed.Needed.before.Goals as goal
use Rattle.vx_lemmas.proofs.Results.{if_ok}

pub returns-in-Slice : goal.returns-in-Slice
returns-in-Slice c = λ items left sound r.
    let now = c.before_slice.result in let is = c.before_slice.ensures in
    by-slice (step_value c.args.step.now) c.args.self.start c.args.self.end now.start now.end c.args.self.masks.items now.masks.items items left sound r
    c.in-Slice.start c.in-Slice.end (ap step_value c.in-Slice.is) is.start is.end is.masks

pub returns-in-Filter : goal.returns-in-Filter
returns-in-Filter c = if_ok c.before_mask.result c.before_mask.ensures (λ n p items left sound r.
    by-mask (step_value c.args.step.now) c.args.self.start c.args.self.end n.start n.end c.args.self.masks.items n.masks.items items left sound r
    (mask_bits c.in-Filter.mask) (ap step_value c.in-Filter.is) p)

pub returns-in-FilterBy : goal.returns-in-FilterBy
returns-in-FilterBy c = if_ok c.before_column.result c.before_column.ensures (λ n p items left sound r.
    by-column (step_value c.args.step.now) c.args.self.start c.args.self.end n.start n.end c.args.self.masks.items n.masks.items items left sound r
    c.in-FilterBy.column (ap step_value c.in-FilterBy.is) (part_of (ap true_bits (c.deref.ensures ∙ c.array.ensures.value)) p))
