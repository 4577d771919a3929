-- What the rows of the spans so far show.
use Rattle.std.proofs.Common.{take}
use Rattle.vx_arrow_image.specs.Image.{parts_of}
use Rattle.vx_arrow_interleave.specs.Spots.{spots}
use Rattle.vx_arrow_interleave.proofs.ShownViews.{ListsTo}
use Rattle.vx_arrow_interleave.proofs.text_views.viewed_items_of.Given as goal

abbrev pub invariant-loop-k : goal.invariant-loop-k
invariant-loop-k l = ListsTo l.count (parts_of l.sources) (spots (take l.k l.places)) l.lists.items
