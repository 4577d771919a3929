-- The rows are planned as they were measured.
use Rattle.std.proofs.Common.{List, Some, ap, length, refl, subst, sym, ◌∙◌}
use Rattle.std.specs.Prelude.{Vec}
use Rattle.std.specs.declared.alloc.Global.{Global}
use Rattle.vx_arrow_image.specs.Image.{parts_of}
use Rattle.vx_arrow_interleave.specs.declared.spans.Span.{Span}
use Rattle.vx_arrow_interleave.specs.Given.{places}
use Rattle.vx_arrow_interleave.specs.Planned.{IsMeasured}
use Rattle.vx_arrow_interleave.specs.Sources.{AreRows}
use Rattle.vx_arrow_interleave.specs.Spots.{spots}
use Rattle.vx_arrow_interleave.specs.TextViews.{ViewsOf}
use Rattle.vx_arrow_interleave.proofs.PlannedRows.{measured_job, planned_job}
use Rattle.vx_arrow_interleave.proofs.planning.job_of.Goals as goal

pub returns : goal.returns
returns c =
    let ps = parts_of c.args.sources.now in
    let f = c.in_ok-format.format in
    let need = c.need_for-need.ensures in
    let m = c.in_ok-measure.measure in
    let own = c.in_ok-rows.rows in
    let rows = c.in_ok-rows.ensures in
    let given = c.deref-2.ensures.value ∙ ap (λ (v : Vec Span Global). v.items) c.deref.ensures in
    let count = c.in-Some.ensures.len ∙ ap (λ (l : List Span). length (spots l)) c.deref-3.ensures.value in
    let are = subst (λ (l : List Span). IsMeasured (Some f) ps (spots l) m) c.deref-4.ensures.value c.in_ok-measure.ensures in
    planned_job f ps (spots c.args.spans.items) c.in-Some.len m.values _ refl
    (measured_job f ps c.in-Some.len own m _ c.in_ok-format.ensures.alike c.in_ok-format.ensures.format (subst (λ (l : List Span). AreRows ps (spots l)) given rows.rows) c.in_ok-new.ensures.ok c.in_ok-new-2.ensures.ok
    (rows.places ∙ ap (λ (l : List Span). places ps (spots l)) given) count c.in-Some.ensures.few are)
    need.len need.valid need.offsets need.values need.sizes c.in_ok-below.ensures (subst (λ (l : List Span). ViewsOf (Some f) ps (spots l) c.in_ok-views.views.items) (c.deref-5.ensures.value ∙ ap (λ (v : Vec Span Global). v.items) (sym c.in_ok-new.ensures.ok)) c.in_ok-views.ensures)
