-- What the views show was listed.
use Rattle.std.proofs.Common.{◌*◌, ℕ, ap, subst}
use Rattle.vx_arrow_image.specs.Image.{parts_of}
use Rattle.vx_arrow_interleave.specs.Spots.{spots}
use Rattle.vx_arrow_interleave.specs.TextViews.{ShowViews}
use Rattle.vx_arrow_interleave.proofs.PlannedRows.{first_children}
use Rattle.vx_arrow_interleave.proofs.SpanItems.{bare_spots}
use Rattle.vx_arrow_interleave.proofs.planning.measure_views.Goals as goal

pub returns : goal.returns
returns c = record {
  held = subst (λ (n : ℕ). ShowViews n (parts_of c.args.sources.now) (spots c.args.rows.now)) (first_children c.args.sources.now c.requires.alike.some) c.in_ok-viewed_items_of.ensures.views;
  items = bare_spots _ c.new.ensures.items;
  values = ap (λ (n : ℕ). 16 * n) c.requires.len;
}
