-- Of two positions the lower one has no more set positions below it.
use Rattle.std.proofs.Common.{◌≤◌, arith}
use Rattle.std.proofs.Common.{rules}
use Rattle.vx_mask.specs.Mask.{mask_bits}
use Rattle.vx_mask.proofs.RangeCounts.{count_take-ordered}
use Rattle.vx_mask.proofs.ranges.mask_range.Goals as goal

pub returns-else-low-high-clause-end : goal.returns-else-low-high-clause-end
returns-else-low-high-clause-end c =
    let mask = mask_bits c.args.mask.now in let low = c.boundary-low.result in let high = c.boundary-high.result in
    let above : high ≤ low = search rules in
    omega (arith, c.requires.ordered, c.boundary-low.ensures.count, c.boundary-high.ensures.count, count_take-ordered mask high low above)
