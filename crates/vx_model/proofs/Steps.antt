-- What a step leaves of a layout's parts makes what it leaves of the column.
use Rattle.std.proofs.Common.{◌≡◌, ℕ, ◌-◌, ◌≤◌, Bool, true, false, List, map, length, slice_range, Option, None, refl, sym, ap, ◌∙◌, arith}
use Rattle.std.specs.Prelude.{replicate}
use Rattle.std.specs.List.{items_where_true}
use Rattle.std.proofs.lemmas.List.{length-map}
use Rattle.vx_bits.specs.BitBuffer.{true_count_of}
use Rattle.vx_types.specs.RowValue.{RowValue, null, bit, bytes}
use Rattle.vx_types.specs.declared.nullability.Nullability.{Nullability}
use Rattle.vx_take.specs.Picks.{at, item_at}
use Rattle.vx_model.specs.Valid.{Valid, is_fitting, nullability_by, present_bits, stored_rows, IsLeft, IsAsPlain}
use Rattle.vx_model.specs.Null.{null_column}
use Rattle.vx_model.specs.Bool.{BoolParts, stored_bits, bool_fault, bool_column, bool_with}
use Rattle.vx_model.specs.Records.{RecordParts, stored_records, records_fault, records_column, records_with}
use Rattle.vx_model.specs.Step.{IsCut, IsSlice}
use Rattle.vx_mask.proofs.RangeCounts.{slice_range-replicate}
use Rattle.vx_model.proofs.Items.{map-items_where_true, map-slice_range, items_where_true-replicate, length-slice_range}
use Rattle.vx_model.proofs.ShownRows.{length-present_bits}
use Rattle.vx_model.proofs.StoredRows.{slice_range-stored_rows, items_where_true-stored_rows, is_cut-stored}
use Rattle.vx_model.proofs.Layouts.{fits-bits, fits-records}
use Rattle.vx_mask.proofs.RankedItems.{length-items_where_true}

-- ---- layout `Null`

pub is_slice-null : (n s e : ℕ) → s ≤ e → e ≤ n → IsSlice (null_column n) s e (null_column (e - s))
is_slice-null n s e h l =
    record {
      step = record { rows = sym (slice_range-replicate n null s e h l); dtype = refl; layout = λ _. refl; unwrapped = λ h. h; direct = λ h. h; form = refl };
      plain = λ h. h;
      depth = omega arith;
    }

pub is_filter-null : (n : ℕ) (mask : List Bool) → length mask ≡ n → IsCut (null_column n) (items_where_true mask (null_column n).rows) (null_column (true_count_of mask))
is_filter-null n mask h =
    record {
      step = record { rows = sym (items_where_true-replicate mask null) ∙ ap (λ k. items_where_true mask (replicate k null)) h; dtype = refl; layout = λ _. refl; unwrapped = λ h. h; direct = λ h. h; form = refl };
      plain = λ h. h;
      depth = omega arith;
    }

-- ---- the layouts that store each row in its place

-- items that are made of others, and a validity that fits these
module _ {X : Type 0} (f : X → RowValue) (items : List X) (v w : Valid) (fit : is_fitting v (length (map f items)) ≡ true) where
  pub slice-stored : (s e : ℕ) → s ≤ e → e ≤ length (map f items) → IsLeft v (nullability_by v) (slice_range (present_bits v (length (map f items))) s e) w → stored_rows w (map f (slice_range items s e)) ≡ slice_range (stored_rows v (map f items)) s e
  slice-stored s e h l left =
      ap (stored_rows w) (map-slice_range f items s e) ∙ slice_range-stored_rows v w (map f items) s e fit h l left.bits

  pub filter-stored : (mask : List Bool) → length mask ≡ length (map f items) → IsLeft v (nullability_by v) (items_where_true mask (present_bits v (length (map f items)))) w → stored_rows w (map f (items_where_true mask items)) ≡ items_where_true mask (stored_rows v (map f items))
  filter-stored mask h left =
      ap (stored_rows w) (map-items_where_true f mask items) ∙ items_where_true-stored_rows v w (map f items) mask fit h left.bits

-- the slice of the parts, with the slice of the validity
pub is_slice-bool : (p : BoolParts) (w : Valid) (offset s e : ℕ) → bool_fault p ≡ None → s ≤ e → e ≤ length (stored_bits p).items → IsLeft p.valid (nullability_by p.valid) (slice_range (present_bits p.valid (length (stored_bits p).items)) s e) w → IsAsPlain p.valid w → IsSlice (bool_column p) s e (bool_column (bool_with (slice_range p.bits.bits s e) offset w))
is_slice-bool p w offset s e f h l left plain =
    is_cut-stored (stored_bits p) w _ _ _ _ (slice-stored bit p.bits.bits p.valid w (fits-bits p f) s e h l left) left plain

pub is_slice-records : (p : RecordParts) (w : Valid) (s e : ℕ) → records_fault p ≡ None → s ≤ e → e ≤ length (stored_records p).items → IsLeft p.valid (nullability_by p.valid) (slice_range (present_bits p.valid (length (stored_records p).items)) s e) w → IsAsPlain p.valid w → IsSlice (records_column p) s e (records_column (records_with p (slice_range p.records s e) w))
is_slice-records p w s e f h l left plain =
    is_cut-stored (stored_records p) w _ _ _ _ (slice-stored bytes p.records p.valid w (fits-records p f) s e h l left) left plain

-- what is kept of the parts, with what is kept of the validity
pub is_filter-bool : (p : BoolParts) (w : Valid) (offset : ℕ) (mask : List Bool) → bool_fault p ≡ None → length mask ≡ length (stored_bits p).items → IsLeft p.valid (nullability_by p.valid) (items_where_true mask (present_bits p.valid (length (stored_bits p).items))) w → IsAsPlain p.valid w → IsCut (bool_column p) (items_where_true mask (bool_column p).rows) (bool_column (bool_with (items_where_true mask p.bits.bits) offset w))
is_filter-bool p w offset mask f h left plain =
    is_cut-stored (stored_bits p) w _ _ _ _ (filter-stored bit p.bits.bits p.valid w (fits-bits p f) mask h left) left plain

pub is_filter-records : (p : RecordParts) (w : Valid) (mask : List Bool) → records_fault p ≡ None → length mask ≡ length (stored_records p).items → IsLeft p.valid (nullability_by p.valid) (items_where_true mask (present_bits p.valid (length (stored_records p).items))) w → IsAsPlain p.valid w → IsCut (records_column p) (items_where_true mask (records_column p).rows) (records_column (records_with p (items_where_true mask p.records) w))
is_filter-records p w mask f h left plain =
    is_cut-stored (stored_records p) w _ _ _ _ (filter-stored bytes p.records p.valid w (fits-records p f) mask h left) left plain

-- ---- what is left of a validity fits what is left of the items

module _ {X : Type 0} (items : List X) (v w : Valid) (n : Nullability) (m : ℕ) (long : length items ≡ m) (fit : is_fitting v m ≡ true) where
  bits_long : length (present_bits v m) ≡ length items
  bits_long = length-present_bits v m fit ∙ sym long

  pub fitting-slice : (s e : ℕ) → s ≤ e → e ≤ m → IsLeft v n (slice_range (present_bits v m) s e) w → is_fitting w (length (slice_range items s e)) ≡ true
  fitting-slice s e h l left =
      ap (is_fitting w) (length-slice_range items s e h (omega (arith, long)) ∙ sym (length-slice_range (present_bits v m) s e h (omega (arith, long, bits_long)))) ∙ left.fitting

  pub fitting-filter : (mask : List Bool) → length mask ≡ m → IsLeft v n (items_where_true mask (present_bits v m)) w → is_fitting w (true_count_of mask) ≡ true
  fitting-filter mask h left =
      ap (is_fitting w) (sym (length-items_where_true mask (present_bits v m) (h ∙ sym long ∙ sym bits_long))) ∙ left.fitting

pub fitting-take : (v w : Valid) (n : Nullability) (m : ℕ) (picks : List (Option ℕ)) → IsLeft v n (at false (present_bits v m) picks) w → is_fitting w (length picks) ≡ true
fitting-take v w n m picks left = ap (is_fitting w) (sym (length-map picks (item_at false (present_bits v m)))) ∙ left.fitting

pub fitting-same : (v w : Valid) (n : Nullability) (m : ℕ) → is_fitting v m ≡ true → IsLeft v n (present_bits v m) w → is_fitting w m ≡ true
fitting-same v w n m fit left = ap (is_fitting w) (sym (length-present_bits v m fit)) ∙ left.fitting
