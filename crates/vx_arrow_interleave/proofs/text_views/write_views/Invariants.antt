-- The rows of the spans so far.
use Rattle.std.proofs.Common.{◌≡◌, length, take}
use Rattle.vx_arrow_image.specs.Image.{parts_of}
use Rattle.vx_arrow_interleave.specs.Spots.{spots}
use Rattle.vx_arrow_interleave.specs.TextViews.{ViewsTo}
use Rattle.vx_arrow_interleave.proofs.text_views.write_views.Given as goal

abbrev pub invariant-loop-k : goal.invariant-loop-k
invariant-loop-k l = record {
  first : l.first ≡ length (spots (take l.k l.places));
  views : ViewsTo (length l.fn.starts) (parts_of l.sources) (spots (take l.k l.places)) l.starts l.out;
}
