-- A struct has no values of its own.
use Rattle.std.proofs.Common.{Some, refl, subst, sym}
use Rattle.vx_arrow_image.specs.declared.format.Format.{Format}
use Rattle.vx_arrow_image.specs.Image.{parts_of}
use Rattle.vx_arrow_interleave.specs.Planned.{IsMeasured}
use Rattle.vx_arrow_interleave.specs.Spots.{spots}
use Rattle.vx_arrow_interleave.proofs.SpanItems.{bare_spots}
use Rattle.vx_arrow_interleave.proofs.planning.measured.Goals as goal

pub returns-in-Struct : goal.returns-in-Struct
returns-in-Struct c =
    subst (λ (f : Format). IsMeasured (Some f) (parts_of c.args.sources.now) (spots c.args.rows.now) (record { values = 0; items = c.new.result })) (sym c.in-Struct.is) (record {
      held = tt;
      items = bare_spots _ c.new.ensures.items;
      values = refl;
    })
