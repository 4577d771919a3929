use Rattle.std.proofs.Common.{ap, ◌∙◌, arith}
use Rattle.vx_mask.specs.Mask.{at_front}
use Rattle.vx_mask.specs.Positions.{bits_with}
use Rattle.vx_mask.proofs.Partial.{partial_with_indices}
use Rattle.vx_mask.proofs.mask_values.MaskValues.by_indices.Goals as goal

pub with_lists-requires : goal.with_lists-requires
with_lists-requires c =
    let bits = c.in_ok-bits.ensures ∙ ap (λ l. at_front (bits_with c.args.len l)) c.as_slice.ensures.value in
    partial_with_indices c.args.len c.len-count.result _ c.args.indices.items _ c.requires.ascend (omega (arith, c.len-count.ensures)) c.requires.some c.requires.not_all bits c.in_ok-indices.ensures
