-- The elements that the bits keep.
use Rattle.std.proofs.lemmas.Result.{IfOk-weaker}
use Rattle.vx_mask.specs.Mask.{mask_bits}
use Rattle.vx_lists.proofs.ListsOfOneSize.{told_fixed}
use Rattle.vx_lists.proofs.fixed.repeated_mask.Goals as goal

pub returns-clause-lists : goal.returns-clause-lists
returns-clause-lists c =
    IfOk-weaker c.element_mask.result _ _ (λ m e. told_fixed c.args.size c.args.selection.now.bits.bits (mask_bits m) e) c.element_mask.ensures.bits
