-- What a step leaves of texts makes what it leaves of their column.
use Rattle.std.proofs.Common.{◌≡◌, ℕ, ◌≤◌, Bool, true, false, List, [], ◌∷◌, map, length, slice_range, Option, refl, sym, ap, ap₂, ◌∙◌, subst, arith}
use Rattle.std.specs.Prelude.{◌&&◌, ◌||◌, if◌then◌else◌}
use Rattle.std.specs.List.{items_where_true}
use Rattle.vx_types.specs.TypeTree.{TypeTree}
use Rattle.vx_types.specs.RowValue.{RowValue, null, bytes}
use Rattle.vx_types.specs.Text.{text_kind}
use Rattle.vx_types.specs.declared.nullability.Nullability.{Nullability}
use Rattle.vx_types.specs.declared.text.TextKind.{TextKind}
use Rattle.vx_take.specs.Picks.{at}
use Rattle.vx_model.specs.Valid.{Valid, is_constant_form, is_fitting, is_flat_cover, nullability_by, present_bits, stored_rows, IsLeft, IsAsPlain}
use Rattle.vx_model.specs.Plain.{is_in_place, is_lazy_layout, is_null_layout, is_plain, is_row_layout, is_unwrapped}
use Rattle.vx_model.specs.Lists.{kept_lists}
use Rattle.vx_model.specs.Text.{TextParts, kept_texts, stored_texts, text_column}
use Rattle.vx_model.specs.Step.{IsStep, IsCut, IsSlice}
use Rattle.vx_model.proofs.Steps.{slice-stored, filter-stored}
use Rattle.vx_model.proofs.Takes.{take-stored}
use Rattle.vx_model.proofs.ShownRows.{length-present_bits, rows-kept}

-- such a column is neither unwrapped nor plain
neither : (a b c : Bool) → (a || b) ≡ false → (a || (b && c)) ≡ false
neither false false c h = refl
neither false true c h = cc
neither true b c h = cc

not_unwrapped : (p : TextParts) → is_in_place p.layout ≡ false → is_unwrapped (text_column p) ≡ false
not_unwrapped p h = neither (is_null_layout p.layout) (is_row_layout p.layout) (is_flat_cover (text_column p).cover) h

not_plain : (p : TextParts) → is_in_place p.layout ≡ false → is_plain (text_column p) ≡ false
not_plain p h = neither (is_null_layout p.layout) (is_row_layout p.layout) (is_constant_form (text_column p).cover) h

-- ---- texts of the valid rows

same-kept : (bits : List Bool) (texts : List (List ℕ)) → kept_texts bits texts ≡ kept_lists bits texts
same-kept [] texts = refl
same-kept (b ∷ bits) [] = refl
same-kept (b ∷ bits) (x ∷ texts) = ap (λ l. (if b then x else []) ∷ l) (same-kept bits texts)

-- the text behind a null doesn't show
pub rows-kept_texts : (v : Valid) (texts : List (List ℕ)) → length (present_bits v (length texts)) ≡ length texts → stored_rows v (map bytes (kept_texts (present_bits v (length texts)) texts)) ≡ stored_rows v (map bytes texts)
rows-kept_texts v texts h =
    ap (λ l. stored_rows v (map bytes l)) (same-kept (present_bits v (length texts)) texts) ∙ rows-kept bytes v texts h

-- ---- steps

module _ (p q : TextParts) (left : List RowValue) (n : Nullability) (bits : List Bool) (from : is_in_place p.layout ≡ false) (to : is_lazy_layout q.layout ≡ false) (kind : q.kind ≡ p.kind) (rows : stored_rows q.valid (map bytes q.texts) ≡ left) (now : IsLeft p.valid n bits q.valid) where
  -- a step whose rows and validity are these
  pub is_step-texts : IsStep (text_column p) left (record { kind = text_kind p.kind; nullability = n }) (text_column q)
  is_step-texts =
      record {
        rows = rows;
        dtype = ap₂ (λ (k : TextKind) (m : Nullability). let t : TypeTree = record { kind = text_kind k; nullability = m } in t) kind now.nullability;
        layout = λ h. let no : true ≡ false = sym h ∙ from in cc;
        unwrapped = λ h. let no : true ≡ false = sym h ∙ not_unwrapped p from in cc;
        direct = λ _. to;
        form = refl;
      }

module _ (p q : TextParts) (left : List RowValue) (bits : List Bool) (from : is_in_place p.layout ≡ false) (to : is_lazy_layout q.layout ≡ false) (kind : q.kind ≡ p.kind) (rows : stored_rows q.valid (map bytes q.texts) ≡ left) (now : IsLeft p.valid (nullability_by p.valid) bits q.valid) (plain : IsAsPlain p.valid q.valid) where
  -- a step whose rows and validity are these, and which keeps the type
  pub is_cut-texts : IsCut (text_column p) left (text_column q)
  is_cut-texts =
      record {
        step = is_step-texts p q left (nullability_by p.valid) bits from to kind rows now;
        plain = λ h. let no : true ≡ false = sym h ∙ not_plain p from in cc;
        depth = omega (arith, plain.depth);
      }

-- q has the kind of p, and w says which of its rows are valid
module _ (p q : TextParts) (w : Valid) (from : is_in_place p.layout ≡ false) (to : is_lazy_layout q.layout ≡ false) (kind : q.kind ≡ p.kind) (valid : q.valid ≡ w) (fit : is_fitting p.valid (length (stored_texts p).items) ≡ true) where
  left_so : (n : Nullability) (bits : List Bool) → IsLeft p.valid n bits w → IsLeft p.valid n bits q.valid
  left_so n bits left = subst (λ v. IsLeft p.valid n bits v) (sym valid) left

  plain_so : IsAsPlain p.valid w → IsAsPlain p.valid q.valid
  plain_so plain = subst (λ v. IsAsPlain p.valid v) (sym valid) plain

  pub is_slice-texts : (s e : ℕ) → s ≤ e → e ≤ length (stored_texts p).items → q.texts ≡ slice_range p.texts s e → IsLeft p.valid (nullability_by p.valid) (slice_range (present_bits p.valid (length (stored_texts p).items)) s e) w → IsAsPlain p.valid w → IsSlice (text_column p) s e (text_column q)
  is_slice-texts s e h l texts left plain =
      is_cut-texts p q _ _ from to kind
      (ap (λ xs. stored_rows q.valid (map bytes xs)) texts ∙ slice-stored bytes p.texts p.valid q.valid fit s e h l (left_so _ _ left))
      (left_so _ _ left) (plain_so plain)

  -- the texts that are kept, or those of them whose rows are there
  pub is_filter-texts : (mask : List Bool) → length mask ≡ length (stored_texts p).items → q.texts ≡ items_where_true mask p.texts → IsLeft p.valid (nullability_by p.valid) (items_where_true mask (present_bits p.valid (length (stored_texts p).items))) w → IsAsPlain p.valid w → IsCut (text_column p) (items_where_true mask (text_column p).rows) (text_column q)
  is_filter-texts mask h texts left plain =
      is_cut-texts p q _ _ from to kind
      (ap (λ xs. stored_rows q.valid (map bytes xs)) texts ∙ filter-stored bytes p.texts p.valid q.valid fit mask h (left_so _ _ left))
      (left_so _ _ left) (plain_so plain)

  -- texts of which those of null rows are empty have the rows of the texts as they were
  rows_kept : (n : ℕ) (xs : List (List ℕ)) → n ≡ length xs → is_fitting w n ≡ true → q.texts ≡ kept_texts (present_bits w n) xs → stored_rows q.valid (map bytes q.texts) ≡ stored_rows q.valid (map bytes xs)
  rows_kept n xs long fitting texts =
      let there : length (present_bits w (length xs)) ≡ length xs = length-present_bits w (length xs) (ap (is_fitting w) (sym long) ∙ fitting) in
      ap₂ (λ v ys. stored_rows v (map bytes ys)) valid (texts ∙ ap (λ k. kept_texts (present_bits w k) xs) long)
      ∙ rows-kept_texts w xs there
      ∙ ap (λ v. stored_rows v (map bytes xs)) (sym valid)

  pub is_filter-kept : (mask : List Bool) (n : ℕ) → length mask ≡ length (stored_texts p).items → n ≡ length (items_where_true mask p.texts) → is_fitting w n ≡ true → q.texts ≡ kept_texts (present_bits w n) (items_where_true mask p.texts) → IsLeft p.valid (nullability_by p.valid) (items_where_true mask (present_bits p.valid (length (stored_texts p).items))) w → IsAsPlain p.valid w → IsCut (text_column p) (items_where_true mask (text_column p).rows) (text_column q)
  is_filter-kept mask n h long fitting texts left plain =
      is_cut-texts p q _ _ from to kind
      (rows_kept n (items_where_true mask p.texts) long fitting texts ∙ filter-stored bytes p.texts p.valid q.valid fit mask h (left_so _ _ left))
      (left_so _ _ left) (plain_so plain)

  pub is_take-texts : (picks : List (Option ℕ)) (n : Nullability) → q.texts ≡ at [] p.texts picks → IsLeft p.valid n (at false (present_bits p.valid (length (stored_texts p).items)) picks) w → IsStep (text_column p) (at null (text_column p).rows picks) (record { kind = text_kind p.kind; nullability = n }) (text_column q)
  is_take-texts picks n texts left =
      is_step-texts p q _ n _ from to kind
      (ap (λ xs. stored_rows q.valid (map bytes xs)) texts ∙ take-stored bytes [] p.texts p.valid q.valid n fit picks (left_so _ _ left))
      (left_so _ _ left)

  pub is_take-kept : (picks : List (Option ℕ)) (n : Nullability) (m : ℕ) → m ≡ length (at [] p.texts picks) → is_fitting w m ≡ true → q.texts ≡ kept_texts (present_bits w m) (at [] p.texts picks) → IsLeft p.valid n (at false (present_bits p.valid (length (stored_texts p).items)) picks) w → IsStep (text_column p) (at null (text_column p).rows picks) (record { kind = text_kind p.kind; nullability = n }) (text_column q)
  is_take-kept picks n m long fitting texts left =
      is_step-texts p q _ n _ from to kind
      (rows_kept m (at [] p.texts picks) long fitting texts ∙ take-stored bytes [] p.texts p.valid q.valid n fit picks (left_so _ _ left))
      (left_so _ _ left)
