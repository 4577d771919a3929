-- What a loop over items keeps.
use Rattle.std.proofs.Common.{◌≡◌, map, vec_len, length}
use Rattle.std.specs.Vec.{vec_capacity}
use Rattle.serde_json.specs.View.{items_view}
use Rattle.vx_json.specs.Items.{each}
use Rattle.vx_json.proofs.Reading.{IsReading}
use Rattle.vx_json.proofs.items.read_each.Given as goal

-- what the items so far mean is read, and there is room for the rest
abbrev pub invariant-loop-item : goal.invariant-loop-item
invariant-loop-item g l = record {
  reading : IsReading (g.R.ReadItem.meaning l.reader) l.items.items l.item-index (map g.R.ReadItem.seen l.read.items) (each (g.R.ReadItem.meaning l.reader) (items_view l.items.items));
  len : vec_len l.read ≡ l.item-index;
  room : vec_capacity l.read ≡ length l.items.items;
}
