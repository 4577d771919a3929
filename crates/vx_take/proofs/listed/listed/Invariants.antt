use Rattle.std.proofs.Common.{◌≡◌, length, map, take}
use Rattle.std.specs.Vec.{vec_capacity}
use Rattle.vx_take.specs.Picks.{picks_of}
use Rattle.vx_take.proofs.listed.listed.Given as goal

abbrev pub invariant-loop-place : goal.invariant-loop-place
invariant-loop-place g l = record {
  items : l.items.items ≡ map (g.I.ItemOf.item l.item) (picks_of (take l.place-index l.places));
  len : length l.items.items ≡ l.place-index;
  room : vec_capacity l.items ≡ length l.places;
}
