-- The buffers so far.
use Rattle.vx_arrow_image.specs.Image.{part_of}
use Rattle.vx_arrow_columns.proofs.Buffers.{LensTo}
use Rattle.vx_arrow_columns.proofs.kept.buffer_lens.Given as goal

abbrev pub invariant-loop-i : goal.invariant-loop-i
invariant-loop-i l = LensTo (part_of l.node) l.behind l.i l.open l.lens.items
