-- The elements that are kept make what is kept of the lists.
use Rattle.std.proofs.Common.{◌≡◌, ℕ, ◌*◌, length, refl, sym, ap, ap₂, ◌∙◌}
use Rattle.std.specs.List.{items_where_true}
use Rattle.vx_bits.specs.BitBuffer.{true_count_of}
use Rattle.vx_mask.specs.Mask.{mask_bits}
use Rattle.vx_lists.proofs.ListsOfOneSize.{length-repeated}
use Rattle.vx_lists.specs.Plans.{MakesFixed}
use Rattle.vx_model.specs.Column.{Column}
use Rattle.vx_model.specs.FixedSizeList.{FixedParts, fixed_of, fixed_spans}
use Rattle.vx_model.specs.Lists.{lists_of}
use Rattle.vx_model.specs.Step.{IsCut}
use Rattle.vx_model.specs.Valid.{Valid, IsAsPlain}
use Rattle.vx_model.proofs.ListRows.{elements-fixed, fit-fixed, rows-fixed, spans-fixed}
use Rattle.vx_column.specs.Validity.{valid_of}
use Rattle.vx_dispatch.proofs.ListSteps.{filter_step, fits_kept, left_kept}
use Rattle.vx_layouts.proofs.fixed_size_list.filter_fixed_size_list.Goals as goal
use Rattle.std.proofs.Math.Nat.{mul_comm}

pub plan_fixed_filter-requires : goal.plan_fixed_filter-requires
plan_fixed_filter-requires c =
    let p = c.args.array.now in let h = c.validity.ensures.valid in let long = c.requires ∙ rows-fixed p h in
    record {
      long = long ∙ spans-fixed p;
      fitting = fits_kept c.args.selection_mask.now.bits.bits c.validity.ensures.value long c.in_ok-validity.ensures.left (fit-fixed p h);
    }

pub filter-requires : goal.filter-requires
filter-requires c =
    let p = c.args.array.now in let h = c.validity.ensures.valid in let mask = c.args.selection_mask.now.bits.bits in
    let same = c.deref.ensures ∙ c.elements.ensures.value in
    let rows : length mask ≡ p.len = c.requires ∙ rows-fixed p h ∙ spans-fixed p in
    let bits : length (mask_bits c.in_ok-plan.plan.mask) ≡ length mask * p.size = ap length c.in_ok-plan.ensures.mask ∙ length-repeated p.size mask in
    let long : length p.elements.rows ≡ p.size * p.len = elements-fixed p h in
    let both : length mask * p.size ≡ p.size * p.len = ap (λ n. n * p.size) rows ∙ mul_comm p.len p.size in
    bits ∙ both ∙ sym long ∙ ap (λ (x : Column). length x.rows) (sym same)

pub returns : goal.returns
returns c =
    let p = c.args.array.now in let h = c.validity.ensures.valid in let mask = c.args.selection_mask.now.bits.bits in
    let w = valid_of c.in_ok-validity.validity in let plan = c.in_ok-plan.plan in let x = c.in_ok-elements.elements in
    let q : FixedParts = record { elements = x; size = p.size; len = true_count_of mask; valid = w } in
    let left = left_kept mask c.validity.ensures.value (c.requires ∙ rows-fixed p h) c.in_ok-validity.ensures.left in
    let plain : IsAsPlain p.valid w = rw c.validity.ensures.value at c.in_ok-validity.ensures.plain in
    let kept : IsCut p.elements (items_where_true (mask_bits plan.mask) p.elements.rows) x = rw (c.deref.ensures ∙ c.elements.ensures.value) at c.in_ok-elements.ensures.cut in
    let makes : MakesFixed p.size (true_count_of mask) w (items_where_true (mask_bits plan.mask) p.elements.rows) (items_where_true mask (lists_of (fixed_spans p))) = c.in_ok-plan.ensures.lists in
    let made : c.with_parts.result ≡ q = c.with_parts.ensures ∙ ap₂ (λ (y : Column) (n : ℕ). let z : FixedParts = record { elements = y; size = p.size; len = n; valid = valid_of plan.validity } in z) c.in_ok-elements-2.ensures c.true_count.ensures.count ∙ ap (λ (v : Valid). let z : FixedParts = record { elements = x; size = p.size; len = true_count_of mask; valid = v } in z) c.in_ok-plan.ensures.valid in
    rw made
    (filter_step (fixed_spans p) (fixed_spans q) refl refl (ap (λ t. fixed_of t p.size) kept.step.dtype) (fit-fixed p h) mask c.requires (makes x kept.step.rows).1 left plain kept.depth)
