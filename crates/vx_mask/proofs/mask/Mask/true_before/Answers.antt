use Rattle.std.proofs.Common.{◌≤◌, length, subst, arith}
use Rattle.vx_mask.specs.Mask.{mask_bits}
use Rattle.vx_mask.specs.declared.mask.Mask.{Mask}
use Rattle.vx_mask.proofs.PositionLists.{true_before_all}
use Rattle.vx_mask.proofs.mask.Mask.true_before.Goals as goal

pub returns-in-AllTrue : goal.returns-in-AllTrue
returns-in-AllTrue c =
    let within = subst (λ (m : Mask). c.args.p ≤ length (mask_bits m)) c.in-AllTrue.is c.requires in
    rw c.in-AllTrue.is (true_before_all c.in-AllTrue.field-0 c.args.p (omega arith))
