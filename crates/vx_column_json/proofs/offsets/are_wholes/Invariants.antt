-- What a search for another item keeps.
use Rattle.std.proofs.Common.{◌≡◌, drop}
use Rattle.serde_json.specs.View.{items_view}
use Rattle.vx_column_json.specs.Offsets.{are_wholes}
use Rattle.vx_column_json.proofs.offsets.are_wholes.Given as goal

-- whole numbers so far: the answer to the items that are left is the answer to all
abbrev pub invariant-loop-item : goal.invariant-loop-item
invariant-loop-item l = are_wholes (items_view (drop l.item-index l.item-items)) ≡ are_wholes (items_view l.item-items)
