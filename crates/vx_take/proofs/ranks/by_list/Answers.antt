use Rattle.std.proofs.Common.{Bool, List, length, ap, ◌∙◌, arith}
use Rattle.vx_mask.specs.Mask.{mask_bits}
use Rattle.vx_mask.specs.Positions.{set_of}
use Rattle.vx_mask.proofs.PositionLists.{length-positions}
use Rattle.vx_take.proofs.ranks.by_list.Goals as goal

pub gather-requires : goal.gather-requires
gather-requires c =
    let same = ap (λ (bits : List Bool). length (set_of bits)) c.in_ok-kept.ensures.bits in
    let long = ap length c.in-Some.ensures.set ∙ same ∙ length-positions 0 (mask_bits c.args.filter.now) in
    omega (arith, long, c.requires)
