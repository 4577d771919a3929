-- The offsets and sizes that are kept make what is kept of the lists.
use Rattle.std.proofs.Common.{refl, ◌∙◌, arith}
use Rattle.vx_model.specs.ListView.{ListViewParts, listview_spans}
use Rattle.vx_model.specs.Valid.{IsAsPlain}
use Rattle.vx_model.proofs.ListRows.{fit-listview, rows-listview}
use Rattle.vx_column.specs.Validity.{valid_of}
use Rattle.vx_dispatch.proofs.ListSteps.{filter_step, fits_kept, left_kept}
use Rattle.vx_layouts.proofs.listview.filter_listview.Goals as goal

pub plan_view_filter-requires : goal.plan_view_filter-requires
plan_view_filter-requires c =
    let p = c.args.array.now in let h = c.validity.ensures.valid in let long = c.requires ∙ rows-listview p h in
    record {
      long = long;
      fitting = fits_kept c.args.selection_mask.now.bits.bits c.validity.ensures.value long c.in_ok-validity.ensures.left (fit-listview p h);
    }

pub returns : goal.returns
returns c =
    let p = c.args.array.now in let h = c.validity.ensures.valid in let mask = c.args.selection_mask.now.bits.bits in
    let w = valid_of c.in_ok-validity.validity in let plan = c.in_ok-plan.plan in
    let q : ListViewParts = record { elements = p.elements; offsets = plan.offsets; sizes = plan.sizes; valid = w } in
    let left = left_kept mask c.validity.ensures.value (c.requires ∙ rows-listview p h) c.in_ok-validity.ensures.left in
    let plain : IsAsPlain p.valid w = rw c.validity.ensures.value at c.in_ok-validity.ensures.plain in
    rw (c.with_parts.ensures, c.share-elements.ensures, c.elements.ensures.value, c.in_ok-plan.ensures.valid)
    (filter_step (listview_spans p) (listview_spans q) refl refl refl (fit-listview p h) mask c.requires c.in_ok-plan.ensures.lists.1 left plain (omega arith))
