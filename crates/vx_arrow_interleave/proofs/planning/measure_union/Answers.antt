-- There is an id for each row, and it is that of a child.
use Rattle.std.proofs.Common.{refl}
use Rattle.vx_arrow_interleave.proofs.SpanItems.{bare_spots}
use Rattle.vx_arrow_interleave.proofs.planning.measure_union.Goals as goal

pub returns : goal.returns
returns c = record {
  held = c.if-not-all_tagged.ensures refl;
  items = bare_spots _ c.new.ensures.items;
  values = c.requires.len;
}
