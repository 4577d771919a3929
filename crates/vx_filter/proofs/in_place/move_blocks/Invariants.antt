use Rattle.std.proofs.Common.{◌-◌, ◌≡◌, ◌+◌, ◌≤◌, ◌++◌, length, take, drop}
use Rattle.vx_filter.proofs.in_place.move_blocks.Given as goal

abbrev pub invariant-block : goal.invariant-block
invariant-block g l = record {
  len : length l.values ≡ length l.initial.values;
  within : l.moved ≤ l.count;
  front : take (l.to + l.moved) l.values ≡ take l.to l.initial.values ++ take l.moved (drop l.from l.initial.values);
  after : drop (l.from + l.moved) l.values ≡ drop (l.from + l.moved) l.initial.values;
}

abbrev pub decreases-block : goal.decreases-block
decreases-block g l = l.count - l.moved
