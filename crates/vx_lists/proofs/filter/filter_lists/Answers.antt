use Rattle.std.proofs.Common.{ap}
use Rattle.vx_mask.specs.MaskValues.{PartialMask}
use Rattle.vx_lists.proofs.KeptLists.{filter_bounded, filter_told}
use Rattle.vx_lists.proofs.filter.filter_lists.Goals as goal

pub returns-clause-lists : goal.returns-clause-lists
returns-clause-lists c =
    filter_told c.args.offsets.now c.args.selection.now.bits.bits c.share.result.bits.bits c.crop-range.result _ _ _ c.requires.offsets c.requires.counted (ap (λ (m : PartialMask). m.bits.bits) c.share.ensures) c.from_buffer.ensures.bits c.crop-range.ensures.range c.in_ok-offsets.ensures.bits c.in_ok-offsets.ensures.sums

pub returns-clause-bounded : goal.returns-clause-bounded
returns-clause-bounded c =
    filter_bounded c.args.offsets.now c.args.selection.now.bits.bits c.share.result.bits.bits _ c.requires.offsets c.requires.counted (ap (λ (m : PartialMask). m.bits.bits) c.share.ensures) c.in_ok-offsets.ensures.sums
