-- Bits that are repeated never, or once.
use Rattle.std.proofs.Common.{◌∙◌, ap}
use Rattle.vx_mask.specs.MaskValues.{PartialMask}
use Rattle.vx_lists.proofs.ListsOfOneSize.{repeated_never, repeated_once}
use Rattle.vx_lists.proofs.fixed.element_mask.Goals as goal

pub returns-then-size-eq0-clause-bits : goal.returns-then-size-eq0-clause-bits
returns-then-size-eq0-clause-bits c = rw c.if-size-eq0.true (repeated_never c.args.selection.now.bits.bits)

pub returns-then-size-eq1-clause-bits : goal.returns-then-size-eq1-clause-bits
returns-then-size-eq1-clause-bits c =
    rw c.if-size-eq1.true (ap (λ (m : PartialMask). m.bits.bits) c.share.ensures ∙ repeated_once c.args.selection.now.bits.bits)
