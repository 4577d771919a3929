-- Rows that are stored in their places, over any of the layouts that do so.
use Rattle.std.proofs.Common.{◌≡◌, ℕ, ◌≤◌, ◌<◌, Bool, true, false, ◌&&◌, ◌||◌, List, length, get_or, slice_range, refl, sym, ap, ◌∙◌, arith}
use Rattle.std.specs.Prelude.{if◌then◌else◌}
use Rattle.std.specs.List.{items_where_true}
use Rattle.vx_types.specs.TypeTree.{TypeTree}
use Rattle.vx_types.specs.RowValue.{RowValue, null}
use Rattle.vx_types.specs.declared.nullability.Nullability.{Nullability}
use Rattle.vx_model.specs.Valid.{Valid, is_fitting, is_present, is_constant_form, is_flat_cover, cover_by, nullability_by, present_bits, shown_rows, stored_rows, IsLeft, IsAsPlain}
use Rattle.vx_model.specs.Plain.{is_null_layout, is_row_layout}
use Rattle.vx_model.specs.Stored.{StoredParts, stored_column}
use Rattle.vx_model.specs.Step.{IsStep, IsCut}
use Rattle.vx_model.proofs.Items.{length-slice_range}
use Rattle.vx_model.proofs.ShownRows.{length-shown_rows, slice_range-shown_rows, items_where_true-shown_rows, get_or-shown_rows, get_or-present_bits, length-present_bits}
use Rattle.vx_mask.proofs.RankedItems.{length-items_where_true}

-- there are as many rows as items
pub length-stored_rows : (v : Valid) (items : List RowValue) → is_fitting v (length items) ≡ true → length (stored_rows v items) ≡ length items
length-stored_rows v items f = length-shown_rows (present_bits v (length items)) items (length-present_bits v (length items) f)

-- row i
pub get_or-stored_rows : (v : Valid) (items : List RowValue) (i : ℕ) → is_fitting v (length items) ≡ true → i < length items → get_or (stored_rows v items) i null ≡ (if is_present v i then get_or items i null else null)
get_or-stored_rows v items i f l =
    get_or-shown_rows (present_bits v (length items)) items i (length-present_bits v (length items) f) l
    ∙ ap (λ (b : Bool). if b then get_or items i null else null) (get_or-present_bits v (length items) i f l)

-- the slice of the items, with the slice of the validity
pub slice_range-stored_rows : (v w : Valid) (items : List RowValue) (s e : ℕ) → is_fitting v (length items) ≡ true → s ≤ e → e ≤ length items → present_bits w (length (slice_range (present_bits v (length items)) s e)) ≡ slice_range (present_bits v (length items)) s e → stored_rows w (slice_range items s e) ≡ slice_range (stored_rows v items) s e
slice_range-stored_rows v w items s e f h l left =
    let bits = present_bits v (length items) in
    let inside : e ≤ length bits = omega (arith, length-present_bits v (length items) f) in
    let long = length-slice_range items s e h l ∙ sym (length-slice_range bits s e h inside) in
    ap (λ b. shown_rows b (slice_range items s e)) (ap (present_bits w) long ∙ left)
    ∙ sym (slice_range-shown_rows bits items s e)

-- what is kept of the items, with what is kept of the validity
pub items_where_true-stored_rows : (v w : Valid) (items : List RowValue) (mask : List Bool) → is_fitting v (length items) ≡ true → length mask ≡ length items → present_bits w (length (items_where_true mask (present_bits v (length items)))) ≡ items_where_true mask (present_bits v (length items)) → stored_rows w (items_where_true mask items) ≡ items_where_true mask (stored_rows v items)
items_where_true-stored_rows v w items mask f h left =
    let bits = present_bits v (length items) in
    let long = length-items_where_true mask items h ∙ sym (length-items_where_true mask bits (h ∙ sym (length-present_bits v (length items) f))) in
    ap (λ b. shown_rows b (items_where_true mask items)) (ap (present_bits w) long ∙ left)
    ∙ sym (items_where_true-shown_rows mask bits items)

-- what is unwrapped stays so
stays : (none rows before after : Bool) → (before ≡ true → after ≡ true) → (none || (rows && before)) ≡ true → (none || (rows && after)) ≡ true
stays true rows before after h e = refl
stays false true before after h e = h e
stays false false before after h e = e

module _ (p : StoredParts) (w : Valid) (n : Nullability) (items : List RowValue) (records : List (List ℕ)) (left : List RowValue) (bits : List Bool) where
  -- a step whose rows and validity are these
  pub is_step-stored : stored_rows w items ≡ left → IsLeft p.valid n bits w → IsStep (stored_column p) left (record { kind = p.kind; nullability = n }) (stored_column (record p { items = items; records = records; valid = w }))
  is_step-stored same now =
      record {
        rows = same;
        dtype = ap (λ (m : Nullability). let t : TypeTree = record { kind = p.kind; nullability = m } in t) now.nullability;
        layout = λ _. refl;
        unwrapped = stays (is_null_layout p.layout) (is_row_layout p.layout) (is_flat_cover (cover_by p.valid)) (is_flat_cover (cover_by w)) now.flat;
        direct = λ h. h;
        form = refl;
      }

module _ (p : StoredParts) (w : Valid) (items : List RowValue) (records : List (List ℕ)) (left : List RowValue) (bits : List Bool) where
  -- a step whose rows and validity are these, and which keeps the type
  pub is_cut-stored : stored_rows w items ≡ left → IsLeft p.valid (nullability_by p.valid) bits w → IsAsPlain p.valid w → IsCut (stored_column p) left (stored_column (record p { items = items; records = records; valid = w }))
  is_cut-stored same now plain =
      record {
        step = is_step-stored p w (nullability_by p.valid) items records left bits same now;
        plain = stays (is_null_layout p.layout) (is_row_layout p.layout) (is_constant_form (cover_by p.valid)) (is_constant_form (cover_by w)) plain.constant;
        depth = omega (arith, plain.depth);
      }
