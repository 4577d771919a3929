use Rattle.vx_mask.specs.Mask.{mask_bits}
use Rattle.vx_take.proofs.NeededBits.{places_within}
use Rattle.vx_take.proofs.needs.one_by_one.Goals as goal

pub listed-requires : goal.listed-requires
listed-requires c = places_within (mask_bits c.args.mask.now) c.places.result.now c.args.picks.now.picks c.requires c.places.ensures.value
