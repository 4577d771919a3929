-- What a loop over texts keeps.
use Rattle.std.proofs.Common.{◌≡◌, ◌≤◌, vec_len, length}
use Rattle.std.specs.Vec.{vec_capacity}
use Rattle.serde_json.specs.View.{items_view}
use Rattle.vx_json.specs.Items.{each}
use Rattle.vx_json.specs.Texts.{text_or_empty}
use Rattle.vx_json.proofs.ViewLists.{IsPlaced}
use Rattle.vx_json.proofs.views.placed_texts.Given as goal

-- the texts so far are placed, and there is room for the other views
abbrev pub invariant-loop-item : goal.invariant-loop-item
invariant-loop-item l = record {
  placed : IsPlaced l.kind l.items.items l.item-index l.views.items l.bytes.items (each (text_or_empty l.kind) (items_view l.items.items));
  small : length l.bytes.items ≤ 4294967295;
  len : vec_len l.views ≡ l.item-index;
  room : vec_capacity l.views ≡ length l.items.items;
}
