-- What a loop over texts keeps.
use Rattle.std.proofs.Common.{◌≡◌, ◌+◌, vec_len, length}
use Rattle.std.specs.Vec.{vec_capacity}
use Rattle.serde_json.specs.View.{items_view}
use Rattle.vx_json.specs.Items.{each}
use Rattle.vx_json.specs.Texts.{text_or_empty}
use Rattle.vx_json.proofs.TextLists.{IsStrung}
use Rattle.vx_json.proofs.texts.strung_texts.Given as goal

-- the texts so far stand one behind another, and there is room for the other offsets
abbrev pub invariant-loop-item : goal.invariant-loop-item
invariant-loop-item l = record {
  strung : IsStrung l.kind l.items.items l.item-index l.offsets.items l.bytes.items (each (text_or_empty l.kind) (items_view l.items.items));
  len : vec_len l.offsets ≡ l.item-index + 1;
  room : vec_capacity l.offsets ≡ length l.items.items + 1;
}
