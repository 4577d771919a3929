use Rattle.std.proofs.Common.{◌-◌, ◌<◌, ◌≤◌, length, get_or}
use Rattle.vx_mask.proofs.ranks.block_with.Given as goal

abbrev pub invariant-halving : goal.invariant-halving
invariant-halving l = record {
  ordered : l.low < l.high;
  within : l.high ≤ length l.blocks;
  before : get_or l.blocks l.low 0 ≤ l.k;
  next : l.high < length l.blocks → l.k < get_or l.blocks l.high 0;
}

abbrev pub decreases-halving : goal.decreases-halving
decreases-halving l = l.high - l.low
