use Rattle.std.proofs.Common.{◌∙◌}
use Rattle.vx_mask.specs.Mask.{mask_bits}
use Rattle.vx_take.proofs.RankedPicks.{in_set}
use Rattle.vx_take.proofs.ranks.SetPositionItemOfUsize.item_of.Goals as goal

pub returns-else-rank-eq-NULL_PLACE : goal.returns-else-rank-eq-NULL_PLACE
returns-else-rank-eq-NULL_PLACE c =
    let there = c.if-rank-eq-NULL_PLACE.false in
    c.rank.ensures.rank ∙ in_set (mask_bits c.args.self.now.filter.now) c.args.rank there (c.requires there)
