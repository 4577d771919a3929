-- What a step leaves of lists, beside what it leaves of their validity.
use Rattle.std.proofs.Common.{◌≡◌, ℕ, ◌-◌, ◌≤◌, Bool, true, false, List, [], map, length, slice_range, Option, refl, sym, ap, ◌∙◌, subst, arith}
use Rattle.std.specs.Prelude.{replicate}
use Rattle.std.specs.List.{items_where_true}
use Rattle.std.proofs.lemmas.List.{length-map, length-replicate}
use Rattle.vx_types.specs.RowValue.{RowValue, null}
use Rattle.vx_types.specs.Nullability.{either_nullable}
use Rattle.vx_types.specs.declared.nullability.Nullability.{Nullability}
use Rattle.vx_take.specs.Picks.{at}
use Rattle.vx_bits.specs.BitBuffer.{true_count_of}
use Rattle.vx_lists.specs.Plans.{lists_left}
use Rattle.vx_model.specs.Lists.{ListsParts, kept_lists, list_row, lists_column, lists_of, stored_lists}
use Rattle.vx_model.specs.Plain.{is_in_place, is_lazy_layout}
use Rattle.vx_model.specs.Step.{IsCut, IsSlice, IsStep}
use Rattle.vx_model.specs.Valid.{Valid, non_nullable, all_valid, all_invalid, by_column, is_fitting, nullability_by, present_bits, stored_rows, IsAsPlain, IsLeft}
use Rattle.vx_model.proofs.Items.{length-slice_range}
use Rattle.vx_model.proofs.ListForms.{is_same-lists}
use Rattle.vx_model.proofs.ListRows.{fits-lists, items-lists, length-lists}
use Rattle.vx_model.proofs.ListSteps.{is_filter-hidden, is_filter-lists, is_slice-lists, is_take-kept_lists, is_take-lists}
use Rattle.vx_model.proofs.ShownRows.{length-present_bits, none_shown}
use Rattle.vx_model.proofs.Takes.{length-at}
use Rattle.vx_model.proofs.Steps.{fitting-take}
use Rattle.vx_mask.proofs.RankedItems.{length-items_where_true}

-- ---- what is left of a validity fits what is left of the rows

module _ (v w : Valid) (n : Nullability) (m : ℕ) (fit : is_fitting v m ≡ true) where
  pub fits_slice : (s e : ℕ) → s ≤ e → e ≤ m → IsLeft v n (slice_range (present_bits v m) s e) w → is_fitting w (e - s) ≡ true
  fits_slice s e h l left =
      ap (is_fitting w) (sym (length-slice_range (present_bits v m) s e h (omega (arith, l, length-present_bits v m fit)))) ∙ left.fitting

  pub fits_filter : (mask : List Bool) → length mask ≡ m → IsLeft v n (items_where_true mask (present_bits v m)) w → is_fitting w (true_count_of mask) ≡ true
  fits_filter mask h left =
      ap (is_fitting w) (sym (length-items_where_true mask (present_bits v m) (h ∙ sym (length-present_bits v m fit)))) ∙ left.fitting

  pub fits_same : IsLeft v n (present_bits v m) w → is_fitting w m ≡ true
  fits_same left = ap (is_fitting w) (sym (length-present_bits v m fit)) ∙ left.fitting

-- by the validity that is known to be this, and a mask of so many bits
module _ {v w given : Valid} {m : ℕ} (mask : List Bool) (same : given ≡ v) (long : length mask ≡ m) (left : IsLeft given (nullability_by given) (items_where_true mask (present_bits given (length mask))) w) where
  pub left_kept : IsLeft v (nullability_by v) (items_where_true mask (present_bits v m)) w
  left_kept =
      subst (λ k. IsLeft v (nullability_by v) (items_where_true mask (present_bits v k)) w) long
      (subst (λ x. IsLeft x (nullability_by x) (items_where_true mask (present_bits x (length mask))) w) same left)

  pub fits_kept : is_fitting v m ≡ true → is_fitting w (true_count_of mask) ≡ true
  fits_kept fit = fits_filter v w (nullability_by v) m fit mask long left_kept

-- and so for picks of so many rows
pub left_taken : {v w given : Valid} {m bound : ℕ} (picks : List (Option ℕ)) (n : Nullability) → given ≡ v → bound ≡ m → IsLeft given (either_nullable (nullability_by given) n) (at false (present_bits given bound) picks) w → IsLeft v (either_nullable (nullability_by v) n) (at false (present_bits v m) picks) w
left_taken {v} {w} {given} {m} {bound} picks n same long left =
    subst (λ k. IsLeft v (either_nullable (nullability_by v) n) (at false (present_bits v k) picks) w) long
    (subst (λ x. IsLeft x (either_nullable (nullability_by x) n) (at false (present_bits x bound) picks) w) same left)

-- ---- where no row is valid, the lists don't show

pub left_shown : (v : Valid) (lists : List (List RowValue)) → stored_rows v (map list_row (lists_left v lists)) ≡ stored_rows v (map list_row lists)
left_shown non_nullable lists = refl
left_shown all_valid lists = refl
left_shown (by_column c) lists = refl
left_shown all_invalid lists =
    let empty = replicate (length lists) [] in
    let long = length-map empty list_row ∙ length-replicate (length lists) [] in
    let same = length-map lists list_row in
    none_shown (length (map list_row empty)) (map list_row empty) refl
    ∙ ap (λ n. replicate n null) (long ∙ sym same)
    ∙ sym (none_shown (length (map list_row lists)) (map list_row lists) refl)

-- ---- the steps

module _ (p q : ListsParts) (from : is_in_place p.layout ≡ false) (to : is_lazy_layout q.layout ≡ false) (kind : q.kind ≡ p.kind) (fit : is_fitting p.valid (length p.spans) ≡ true) where
  by_items : (A : ℕ → Type 0) → A (length p.spans) → A (length (stored_lists p).items)
  by_items A h = subst A (sym (items-lists p)) h

  pub slice_step : (s e : ℕ) → s ≤ e → e ≤ length (lists_column p).rows → lists_of q ≡ slice_range (lists_of p) s e → IsLeft p.valid (nullability_by p.valid) (slice_range (present_bits p.valid (length p.spans)) s e) q.valid → IsAsPlain p.valid q.valid → q.elements.depth ≤ p.elements.depth → IsSlice (lists_column p) s e (lists_column q)
  slice_step s e o l lists left plain inner =
      is_slice-lists p q from to kind (fits-lists p fit) s e o (omega (arith, l, length-lists p fit, items-lists p)) lists
      (by_items (λ k. IsLeft p.valid (nullability_by p.valid) (slice_range (present_bits p.valid k) s e) q.valid) left) plain inner

  pub filter_step : (mask : List Bool) → length mask ≡ length (lists_column p).rows → lists_of q ≡ items_where_true mask (lists_of p) → IsLeft p.valid (nullability_by p.valid) (items_where_true mask (present_bits p.valid (length p.spans))) q.valid → IsAsPlain p.valid q.valid → q.elements.depth ≤ p.elements.depth → IsCut (lists_column p) (items_where_true mask (lists_column p).rows) (lists_column q)
  filter_step mask h lists left plain inner =
      is_filter-lists p q from to kind (fits-lists p fit) mask (h ∙ length-lists p fit ∙ sym (items-lists p)) lists
      (by_items (λ k. IsLeft p.valid (nullability_by p.valid) (items_where_true mask (present_bits p.valid k)) q.valid) left) plain inner

  pub filter_left_step : (mask : List Bool) → length mask ≡ length (lists_column p).rows → lists_of q ≡ lists_left q.valid (items_where_true mask (lists_of p)) → IsLeft p.valid (nullability_by p.valid) (items_where_true mask (present_bits p.valid (length p.spans))) q.valid → IsAsPlain p.valid q.valid → q.elements.depth ≤ p.elements.depth → IsCut (lists_column p) (items_where_true mask (lists_column p).rows) (lists_column q)
  filter_left_step mask h lists left plain inner =
      is_filter-hidden p q from to kind (fits-lists p fit) mask (items_where_true mask (lists_of p)) (h ∙ length-lists p fit ∙ sym (items-lists p)) refl
      (ap (λ xs. stored_rows q.valid (map list_row xs)) lists ∙ left_shown q.valid (items_where_true mask (lists_of p)))
      (by_items (λ k. IsLeft p.valid (nullability_by p.valid) (items_where_true mask (present_bits p.valid k)) q.valid) left) plain inner

  pub take_step : (missing : List RowValue) (picks : List (Option ℕ)) (n : Nullability) → lists_of q ≡ at missing (lists_of p) picks → IsLeft p.valid n (at false (present_bits p.valid (length p.spans)) picks) q.valid → IsStep (lists_column p) (at null (lists_column p).rows picks) (record { kind = p.kind; nullability = n }) (lists_column q)
  take_step missing picks n lists left =
      is_take-lists p q from to kind (fits-lists p fit) missing picks n lists
      (by_items (λ k. IsLeft p.valid n (at false (present_bits p.valid k) picks) q.valid) left)

  pub take_kept_step : (picks : List (Option ℕ)) (n : Nullability) → lists_of q ≡ kept_lists (present_bits q.valid (length picks)) (at [] (lists_of p) picks) → IsLeft p.valid n (at false (present_bits p.valid (length p.spans)) picks) q.valid → IsStep (lists_column p) (at null (lists_column p).rows picks) (record { kind = p.kind; nullability = n }) (lists_column q)
  take_kept_step picks n lists left =
      let many : length (at [] (lists_of p) picks) ≡ length picks = length-at [] (lists_of p) picks in
      is_take-kept_lists p q from to kind (fits-lists p fit) [] picks n
      (ap (is_fitting q.valid) many ∙ fitting-take p.valid q.valid n (length p.spans) picks left)
      (lists ∙ ap (λ k. kept_lists (present_bits q.valid k) (at [] (lists_of p) picks)) (sym many))
      (by_items (λ k. IsLeft p.valid n (at false (present_bits p.valid k) picks) q.valid) left)

  pub same_step : lists_of q ≡ lists_of p → IsLeft p.valid (nullability_by p.valid) (present_bits p.valid (length p.spans)) q.valid → IsStep (lists_column p) (lists_column p).rows (lists_column p).dtype (lists_column q)
  same_step lists left =
      is_same-lists p q from to kind (fits-lists p fit) lists
      (by_items (λ k. IsLeft p.valid (nullability_by p.valid) (present_bits p.valid k) q.valid) left)
