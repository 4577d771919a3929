-- The rows so far.
use Rattle.std.proofs.Common.{◌++◌, length, take}
use Rattle.vx_arrow_image.specs.Image.{parts_of}
use Rattle.vx_arrow_interleave.specs.Spots.{run_of, spots}
use Rattle.vx_arrow_interleave.specs.TextViews.{ViewsTo, span_at}
use Rattle.vx_arrow_interleave.proofs.text_views.put_views.Given as goal

abbrev pub invariant-loop-i : goal.invariant-loop-i
invariant-loop-i l = ViewsTo (length l.fn.starts) (parts_of l.sources) (spots (take l.k l.places) ++ run_of (span_at l.places l.k).source (span_at l.places l.k).start l.i) l.starts l.out
