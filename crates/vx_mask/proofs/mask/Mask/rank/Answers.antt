use Rattle.std.proofs.Common.{◌<◌, subst}
use Rattle.vx_bits.specs.BitBuffer.{true_count_of}
use Rattle.vx_mask.specs.Mask.{mask_bits}
use Rattle.vx_mask.specs.declared.mask.Mask.{Mask}
use Rattle.vx_mask.proofs.PositionLists.{rank_true}
use Rattle.vx_mask.proofs.mask.Mask.rank.Goals as goal

pub returns-in-AllTrue-clause-rank : goal.returns-in-AllTrue-clause-rank
returns-in-AllTrue-clause-rank c =
    let below = subst (λ (m : Mask). c.args.k < true_count_of (mask_bits m)) c.in-AllTrue.is c.requires in
    rw c.in-AllTrue.is (rank_true c.in-AllTrue.field-0 c.args.k below)
