use Rattle.std.proofs.Common.{Bool, List, IfSome, ap, sym, subst, ◌∙◌}
use Rattle.vx_mask.specs.Mask.{mask_bits, slices_in}
use Rattle.vx_mask.specs.MaskValues.{PartialMask, keep_slices}
use Rattle.vx_mask.specs.Positions.{AreMaximalRuns}
use Rattle.vx_mask.proofs.Partial.{new_slices}
use Rattle.vx_mask.proofs.mask.Mask.with_slices.Goals as goal

pub returns-in_ok-keep_slices-in-Values-clause-maximal : goal.returns-in_ok-keep_slices-in-Values-clause-maximal
returns-in_ok-keep_slices-in-Values-clause-maximal c = λ none.
    let values = c.in-Values.values in
    let made = new_slices values (sym (ap slices_in c.in-Values.is) ∙ none) in
    let of_mask = subst (λ (bits : List Bool). IfSome (keep_slices values).slices (AreMaximalRuns bits)) (sym (ap mask_bits c.in-Values.is)) made in
    subst (λ (m : PartialMask). IfSome m.slices (AreMaximalRuns (mask_bits c.args.self.now))) (sym c.in_ok-keep_slices-in-Values.ensures) of_mask
