-- The items of the rows of the spans so far.
use Rattle.std.proofs.Common.{◌≡◌, take}
use Rattle.vx_arrow_interleave.specs.Given.{fixed_items}
use Rattle.vx_arrow_interleave.specs.Spots.{spots}
use Rattle.vx_arrow_interleave.proofs.items.fixed_items_of.Given as goal

abbrev pub invariant-loop-k : goal.invariant-loop-k
invariant-loop-k l = spots l.list.items ≡ fixed_items l.width (spots (take l.k l.places))
