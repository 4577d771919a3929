-- What a step leaves of lists makes what it leaves of their column.
use Rattle.std.proofs.Common.{◌≡◌, ℕ, ◌≤◌, Bool, true, false, List, map, length, slice_range, Option, ap, ◌∙◌}
use Rattle.std.specs.List.{items_where_true}
use Rattle.vx_types.specs.RowValue.{RowValue, null}
use Rattle.vx_types.specs.declared.nullability.Nullability.{Nullability}
use Rattle.vx_take.specs.Picks.{at}
use Rattle.vx_model.specs.Valid.{is_fitting, nullability_by, present_bits, stored_rows, IsLeft, IsAsPlain}
use Rattle.vx_model.specs.Plain.{is_in_place, is_lazy_layout}
use Rattle.vx_model.specs.Lists.{ListsParts, kept_lists, list_row, lists_column, lists_of, stored_lists}
use Rattle.vx_model.specs.Step.{IsStep, IsCut, IsSlice}
use Rattle.vx_model.proofs.Steps.{slice-stored, filter-stored}
use Rattle.vx_model.proofs.Takes.{take-stored}
use Rattle.vx_model.proofs.ShownRows.{length-present_bits, rows-kept}
use Rattle.vx_model.proofs.NestedSteps.{is_cut-nested, is_step-nested}

-- ---- steps

module _ (p q : ListsParts) (from : is_in_place p.layout ≡ false) (to : is_lazy_layout q.layout ≡ false) (kind : q.kind ≡ p.kind) where
  -- a step whose rows and validity are these
  pub is_step-lists : (left : List RowValue) (n : Nullability) (bits : List Bool) → stored_rows q.valid (map list_row (lists_of q)) ≡ left → IsLeft p.valid n bits q.valid → IsStep (lists_column p) left (record { kind = p.kind; nullability = n }) (lists_column q)
  is_step-lists left n bits rows now =
      is_step-nested (stored_lists p) (stored_lists q) from to kind left bits rows n now

  -- a step whose rows and validity are these, and which keeps the type
  pub is_cut-lists : (left : List RowValue) (bits : List Bool) → stored_rows q.valid (map list_row (lists_of q)) ≡ left → IsLeft p.valid (nullability_by p.valid) bits q.valid → IsAsPlain p.valid q.valid → q.elements.depth ≤ p.elements.depth → IsCut (lists_column p) left (lists_column q)
  is_cut-lists left bits rows now plain inner =
      is_cut-nested (stored_lists p) (stored_lists q) from to kind left bits rows now plain inner

  module _ (fit : is_fitting p.valid (length (stored_lists p).items) ≡ true) where
    pub is_slice-lists : (s e : ℕ) → s ≤ e → e ≤ length (stored_lists p).items → lists_of q ≡ slice_range (lists_of p) s e → IsLeft p.valid (nullability_by p.valid) (slice_range (present_bits p.valid (length (stored_lists p).items)) s e) q.valid → IsAsPlain p.valid q.valid → q.elements.depth ≤ p.elements.depth → IsSlice (lists_column p) s e (lists_column q)
    is_slice-lists s e h l lists left plain inner =
        is_cut-lists _ _
        (ap (λ xs. stored_rows q.valid (map list_row xs)) lists ∙ slice-stored list_row (lists_of p) p.valid q.valid fit s e h l left)
        left plain inner

    pub is_filter-lists : (mask : List Bool) → length mask ≡ length (stored_lists p).items → lists_of q ≡ items_where_true mask (lists_of p) → IsLeft p.valid (nullability_by p.valid) (items_where_true mask (present_bits p.valid (length (stored_lists p).items))) q.valid → IsAsPlain p.valid q.valid → q.elements.depth ≤ p.elements.depth → IsCut (lists_column p) (items_where_true mask (lists_column p).rows) (lists_column q)
    is_filter-lists mask h lists left plain inner =
        is_cut-lists _ _
        (ap (λ xs. stored_rows q.valid (map list_row xs)) lists ∙ filter-stored list_row (lists_of p) p.valid q.valid fit mask h left)
        left plain inner

    -- where no row is valid, the lists don't show
    pub is_filter-hidden : (mask : List Bool) (lists : List (List RowValue)) → length mask ≡ length (stored_lists p).items → lists ≡ items_where_true mask (lists_of p) → stored_rows q.valid (map list_row (lists_of q)) ≡ stored_rows q.valid (map list_row lists) → IsLeft p.valid (nullability_by p.valid) (items_where_true mask (present_bits p.valid (length (stored_lists p).items))) q.valid → IsAsPlain p.valid q.valid → q.elements.depth ≤ p.elements.depth → IsCut (lists_column p) (items_where_true mask (lists_column p).rows) (lists_column q)
    is_filter-hidden mask lists h is same left plain inner =
        is_cut-lists _ _
        (same ∙ ap (λ xs. stored_rows q.valid (map list_row xs)) is ∙ filter-stored list_row (lists_of p) p.valid q.valid fit mask h left)
        left plain inner

    -- whatever stands at a null pick
    pub is_take-lists : (missing : List RowValue) (picks : List (Option ℕ)) (n : Nullability) → lists_of q ≡ at missing (lists_of p) picks → IsLeft p.valid n (at false (present_bits p.valid (length (stored_lists p).items)) picks) q.valid → IsStep (lists_column p) (at null (lists_column p).rows picks) (record { kind = p.kind; nullability = n }) (lists_column q)
    is_take-lists missing picks n lists left =
        is_step-lists _ n _
        (ap (λ xs. stored_rows q.valid (map list_row xs)) lists ∙ take-stored list_row missing (lists_of p) p.valid q.valid n fit picks left)
        left

    -- a take whose lists of null rows are empty
    pub is_take-kept_lists : (missing : List RowValue) (picks : List (Option ℕ)) (n : Nullability) → is_fitting q.valid (length (at missing (lists_of p) picks)) ≡ true → lists_of q ≡ kept_lists (present_bits q.valid (length (at missing (lists_of p) picks))) (at missing (lists_of p) picks) → IsLeft p.valid n (at false (present_bits p.valid (length (stored_lists p).items)) picks) q.valid → IsStep (lists_column p) (at null (lists_column p).rows picks) (record { kind = p.kind; nullability = n }) (lists_column q)
    is_take-kept_lists missing picks n fitting lists left =
        let xs = at missing (lists_of p) picks in
        is_step-lists _ n _
        (ap (λ ys. stored_rows q.valid (map list_row ys)) lists
        ∙ rows-kept list_row q.valid xs (length-present_bits q.valid (length xs) fitting)
        ∙ take-stored list_row missing (lists_of p) p.valid q.valid n fit picks left)
        left
