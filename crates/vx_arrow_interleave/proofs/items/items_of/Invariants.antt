-- The items of the rows of the spans so far.
use Rattle.std.proofs.Common.{take}
use Rattle.vx_arrow_image.specs.Image.{parts_of}
use Rattle.vx_arrow_interleave.specs.Spots.{spots}
use Rattle.vx_arrow_interleave.proofs.SpotItems.{ItemsTo}
use Rattle.vx_arrow_interleave.proofs.items.items_of.Given as goal

abbrev pub invariant-loop-k : goal.invariant-loop-k
invariant-loop-k l = ItemsTo l.texts l.size (parts_of l.sources) (spots (take l.k l.places)) l.total (spots l.list.items)
