-- What a search for a null keeps.
use Rattle.std.proofs.Common.{◌≡◌, drop}
use Rattle.serde_json.specs.View.{items_view}
use Rattle.vx_json.specs.Bools.{has_null}
use Rattle.vx_json.proofs.bools.has_null.Given as goal

-- no null so far: the answer to the items that are left is the answer to all
abbrev pub invariant-loop-item : goal.invariant-loop-item
invariant-loop-item l = has_null (items_view (drop l.item-index l.item-items)) ≡ has_null (items_view l.item-items)
