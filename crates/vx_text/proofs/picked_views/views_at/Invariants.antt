-- The views at the picks before the one at hand.
use Rattle.std.proofs.Common.{◌≡◌, length, map, take}
use Rattle.std.specs.Vec.{vec_capacity}
use Rattle.vx_offsets.specs.Offsets.{offset_positions, record_numbers}
use Rattle.vx_text.specs.Views.{text_view}
use Rattle.vx_text.proofs.picked_views.views_at.Given as goal

abbrev pub invariant-loop-i : goal.invariant-loop-i
invariant-loop-i g l = record {
  items : l.views.items ≡ map (text_view (offset_positions (record_numbers l.ptype l.records)) l.bytes) (take l.i l.picks.picks);
  len : length l.views.items ≡ l.i;
  room : vec_capacity l.views ≡ length l.picks.picks;
}
