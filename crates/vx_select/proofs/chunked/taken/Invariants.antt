-- The records at the ranks before the one at hand.
use Rattle.std.proofs.Common.{◌≡◌, length, take, replicate}
use Rattle.std.specs.Vec.{vec_capacity}
use Rattle.vx_take.specs.Picks.{at}
use Rattle.vx_select.proofs.chunked.taken.Given as goal

abbrev pub invariant-loop-i : goal.invariant-loop-i
invariant-loop-i g l = record {
  items : l.records.items ≡ at (replicate g.row.W 0) l.values (take l.i l.ranks.picks);
  len : length l.records.items ≡ l.i;
  room : vec_capacity l.records ≡ length l.ranks.picks;
}
