-- The lists that stay.
use Rattle.std.proofs.Common.{◌∙◌, ap}
use Rattle.vx_mask.specs.Mask.{mask_bits}
use Rattle.vx_column.specs.Validity.{valid_of}
use Rattle.vx_lists.specs.Fixed.{repeat_bits}
use Rattle.vx_lists.proofs.ListsOfOneSize.{fixed_filtered}
use Rattle.vx_lists.proofs.fixed_size_list.plan_fixed_filter.Goals as goal

pub returns-clause-lists : goal.returns-clause-lists
returns-clause-lists c =
    let bits = c.args.mask.now.bits.bits in
    fixed_filtered c.args.array.now bits (mask_bits c.in_ok-mask.mask) (valid_of c.args.validity) c.list_size.ensures.valid c.requires.long c.requires.fitting
    (c.in_ok-mask.ensures.bits ∙ ap (λ s. repeat_bits s bits) c.list_size.ensures.value)
