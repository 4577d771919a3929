use Rattle.std.proofs.Common.{ap, ◌∙◌}
use Rattle.vx_mask.specs.Mask.{at_front}
use Rattle.vx_mask.specs.Positions.{bits_with, run_positions}
use Rattle.vx_mask.proofs.Partial.{partial_with_slices}
use Rattle.vx_mask.proofs.mask_values.MaskValues.by_slices.Goals as goal

pub with_lists-requires : goal.with_lists-requires
with_lists-requires c =
    let bits = c.in_ok-bits.ensures ∙ ap (λ l. at_front (bits_with c.args.len (run_positions l))) c.as_slice.ensures.value in
    partial_with_slices c.args.len c.args.true_count _ c.args.slices.items _ c.requires.ascend c.requires.counted c.requires.some c.requires.not_all bits c.in_ok-slices.ensures
