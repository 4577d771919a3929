use Rattle.std.proofs.Common.{◌∙◌, sym}
use Rattle.vx_mask.proofs.AgreeingLists.{faultless_parts}
use Rattle.vx_mask.proofs.mask_values.MaskValues.try_from_parts.Goals as goal

pub with_lists-requires : goal.with_lists-requires
with_lists-requires c =
    faultless_parts c.args.bits c.args.true_count c.args.indices c.args.slices (sym c.in_default.is ∙ c.fault_of.ensures)
