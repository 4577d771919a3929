-- The rows of structs, and what a step over the fields leaves of them.
use Rattle.std.proofs.Common.{◌≡◌, ℕ, zero, suc, ◌-◌, ◌<◌, ◌≤◌, Bool, true, false, List, [], ◌∷◌, map, length, get_or, slice_range, Option, None, Some, refl, sym, ap, ap₂, ◌∙◌, subst, arith}
use Rattle.std.specs.Prelude.{if◌then◌else◌, replicate}
use Rattle.std.specs.List.{items_where_true}
use Rattle.std.proofs.lemmas.List.{length-map, get_or-map}
use Rattle.vx_bits.specs.BitBuffer.{true_count_of}
use Rattle.vx_types.specs.FieldTypes.{FieldTypes}
use Rattle.vx_types.specs.RowValue.{RowValue, null}
use Rattle.vx_types.specs.Same.{are_same, are_same_types}
use Rattle.vx_types.specs.SameLaws.{kind_decides}
use Rattle.vx_types.specs.TypeTree.{TypeKind, TypeTrees, no_types, struct_kind, types_of}
use Rattle.vx_types.specs.declared.error.ColumnError.TheVariants.{WrongType, WrongLength, BadValidity}
use Rattle.vx_types.specs.declared.nullability.Nullability.{Nullability}
use Rattle.vx_take.specs.Picks.{AreBelow, at}
use Rattle.vx_model.specs.Column.{Column}
use Rattle.vx_model.specs.Columns.{AreCuts, AreSteps, are_long, firsts_for_nulls, rows_across, types_in}
use Rattle.vx_model.specs.Step.{IsCut, IsSlice, IsStep}
use Rattle.vx_model.specs.Struct.{StructParts, fields_row, stored_structs, struct_column, struct_fault, struct_of}
use Rattle.vx_model.specs.Valid.{is_fitting, is_present, nullability_by, present_bits, shown_rows, stored_rows, IsAsPlain, IsLeft}
use Rattle.vx_model.proofs.Across.{across-filter, across-same, across-slice, across-take, at-firsts, depth-cuts, length-rows_across, row-rows_across, steps-cuts, there-firsts}
use Rattle.vx_model.proofs.ListRows.{holds_1, holds_2, holds_3}
use Rattle.vx_model.proofs.NestedSteps.{is_cut-nested, is_step-nested}
use Rattle.vx_model.proofs.ShownRows.{length-present_bits}
use Rattle.vx_model.proofs.Steps.{filter-stored, slice-stored}
use Rattle.vx_model.proofs.StoredRows.{get_or-stored_rows, length-stored_rows}
use Rattle.vx_model.proofs.Takes.{take-stored}

-- ---- sound parts

module _ (p : StructParts) (h : struct_fault p ≡ None) where
  pub types-struct : are_same_types (types_in p.columns) p.types.types ≡ true
  types-struct = holds_1 WrongType WrongLength BadValidity (are_same_types (types_in p.columns) p.types.types) (are_long p.len p.columns) (is_fitting p.valid p.len) h

  pub long-struct : are_long p.len p.columns ≡ true
  long-struct = holds_2 WrongType WrongLength BadValidity (are_same_types (types_in p.columns) p.types.types) (are_long p.len p.columns) (is_fitting p.valid p.len) h

  pub fitting-struct : is_fitting p.valid p.len ≡ true
  fitting-struct = holds_3 WrongType WrongLength BadValidity (are_same_types (types_in p.columns) p.types.types) (are_long p.len p.columns) (is_fitting p.valid p.len) h

-- types that are the same, one by one, are the same
abbrev trees_in : TypeKind → TypeTrees
trees_in (struct_kind names ts) = ts
trees_in k = no_types

pub same_trees : (ts us : TypeTrees) → are_same ts us ≡ true → ts ≡ us
same_trees ts us h = ap trees_in ((kind_decides (struct_kind [] ts) (struct_kind [] us)).0 h)

-- ---- rows

module _ (p : StructParts) (h : struct_fault p ≡ None) where
  pub items-struct : length (stored_structs p).items ≡ p.len
  items-struct = length-map (rows_across p.columns p.len) fields_row ∙ length-rows_across p.columns p.len (long-struct p h)

  pub fit-struct : is_fitting p.valid (length (stored_structs p).items) ≡ true
  fit-struct = ap (is_fitting p.valid) items-struct ∙ fitting-struct p h

  pub rows-struct : length (struct_column p).rows ≡ p.len
  rows-struct = length-stored_rows p.valid (stored_structs p).items fit-struct ∙ items-struct

  -- the fields' types are the type's
  pub trees-struct : types_of (types_in p.columns) ≡ types_of p.types.types
  trees-struct = same_trees (types_of (types_in p.columns)) (types_of p.types.types) (types-struct p h)

  row-struct : (i : ℕ) → i < p.len → get_or (struct_column p).rows i null ≡ (if is_present p.valid i then fields_row (map (λ (c : Column). get_or c.rows i null) p.columns) else null)
  row-struct i l =
      get_or-stored_rows p.valid (stored_structs p).items i fit-struct (omega (arith, l, items-struct))
      ∙ ap (λ (x : RowValue). if is_present p.valid i then x else null)
      (get_or-map fields_row (rows_across p.columns p.len) i [] null (omega (arith, l, length-rows_across p.columns p.len (long-struct p h)))
      ∙ ap fields_row (row-rows_across p.columns p.len i [] (long-struct p h) l))

  -- row i, where it is there and where it isn't
  pub shown-struct : (i : ℕ) → i < p.len → is_present p.valid i ≡ true → fields_row (map (λ (c : Column). get_or c.rows i null) p.columns) ≡ get_or (struct_column p).rows i null
  shown-struct i l there =
      ap (λ (b : Bool). if b then fields_row (map (λ (c : Column). get_or c.rows i null) p.columns) else null) (sym there)
      ∙ sym (row-struct i l)

  pub hidden-struct : (i : ℕ) → i < p.len → is_present p.valid i ≡ false → null ≡ get_or (struct_column p).rows i null
  hidden-struct i l gone =
      ap (λ (b : Bool). if b then fields_row (map (λ (c : Column). get_or c.rows i null) p.columns) else null) (sym gone)
      ∙ sym (row-struct i l)

-- what a proof about the length or about one row needs
pub ruleset struct_rows = (long-struct, fitting-struct, rows-struct, shown-struct, hidden-struct, trees-struct)

-- ---- what a step leaves is sound

-- columns of the same types and so many rows, with a validity that fits
pub fault-struct : (p q : StructParts) → struct_fault p ≡ None → q.types ≡ p.types → types_in q.columns ≡ types_in p.columns → are_long q.len q.columns ≡ true → is_fitting q.valid q.len ≡ true → struct_fault q ≡ None
fault-struct p q h types same long fit =
    let alike : are_same_types (types_in q.columns) q.types.types ≡ true =
    ap₂ (λ ts (t : FieldTypes). are_same_types ts t.types) same types ∙ types-struct p h in
    rw (alike, long, fit) refl

-- columns of the fields' own types
pub fault-made : (q : StructParts) → types_in q.columns ≡ q.types.types → are_long q.len q.columns ≡ true → is_fitting q.valid q.len ≡ true → struct_fault q ≡ None
fault-made q same long fit =
    let alike : are_same_types (types_in q.columns) q.types.types ≡ true =
    ap (λ ts. are_same_types ts q.types.types) same ∙ (kind_decides (struct_kind [] (types_of q.types.types)) (struct_kind [] (types_of q.types.types))).1 refl in
    rw (alike, long, fit) refl

-- ---- steps

kind-struct : (p q : StructParts) → q.types ≡ p.types → struct_of q.types ≡ struct_of p.types
kind-struct p q h = ap struct_of h

module _ (p q : StructParts) (h : struct_fault p ≡ None) (types : q.types ≡ p.types) where
  left_of : (n : Nullability) (f : List Bool → List Bool) → IsLeft p.valid n (f (present_bits p.valid p.len)) q.valid → IsLeft p.valid n (f (present_bits p.valid (length (stored_structs p).items))) q.valid
  left_of n f left = subst (λ m. IsLeft p.valid n (f (present_bits p.valid m)) q.valid) (sym (items-struct p h)) left

  pub is_slice-struct : (s e : ℕ) → s ≤ e → e ≤ p.len → q.len ≡ e - s → AreCuts (λ rows. slice_range rows s e) p.columns q.columns → IsLeft p.valid (nullability_by p.valid) (slice_range (present_bits p.valid p.len) s e) q.valid → IsAsPlain p.valid q.valid → IsSlice (struct_column p) s e (struct_column q)
  is_slice-struct s e o l len cuts left plain =
      let across : rows_across q.columns q.len ≡ slice_range (rows_across p.columns p.len) s e =
      ap (rows_across q.columns) len ∙ across-slice p.len p.columns q.columns (long-struct p h) s e o l (steps-cuts _ p.columns q.columns cuts) in
      let bits = left_of (nullability_by p.valid) (λ b. slice_range b s e) left in
      is_cut-nested (stored_structs p) (stored_structs q) refl refl (kind-struct p q types) _ _
      (ap (λ r. stored_rows q.valid (map fields_row r)) across
      ∙ slice-stored fields_row (rows_across p.columns p.len) p.valid q.valid (fit-struct p h) s e o (omega (arith, l, items-struct p h)) bits)
      bits plain (depth-cuts _ p.columns q.columns cuts)

  pub is_filter-struct : (mask : List Bool) → length mask ≡ p.len → q.len ≡ true_count_of mask → AreCuts (items_where_true mask) p.columns q.columns → IsLeft p.valid (nullability_by p.valid) (items_where_true mask (present_bits p.valid p.len)) q.valid → IsAsPlain p.valid q.valid → IsCut (struct_column p) (items_where_true mask (struct_column p).rows) (struct_column q)
  is_filter-struct mask long len cuts left plain =
      let across : rows_across q.columns q.len ≡ items_where_true mask (rows_across p.columns p.len) =
      ap (rows_across q.columns) len ∙ across-filter p.len p.columns q.columns (long-struct p h) mask long (steps-cuts _ p.columns q.columns cuts) in
      let bits = left_of (nullability_by p.valid) (items_where_true mask) left in
      is_cut-nested (stored_structs p) (stored_structs q) refl refl (kind-struct p q types) _ _
      (ap (λ r. stored_rows q.valid (map fields_row r)) across
      ∙ filter-stored fields_row (rows_across p.columns p.len) p.valid q.valid (fit-struct p h) mask (long ∙ sym (items-struct p h)) bits)
      bits plain (depth-cuts _ p.columns q.columns cuts)

  -- whatever stands at a null pick
  is_take-any : (missing : List RowValue) (picks : List (Option ℕ)) (n : Nullability) → rows_across q.columns q.len ≡ at missing (rows_across p.columns p.len) picks → IsLeft p.valid n (at false (present_bits p.valid p.len) picks) q.valid → IsStep (struct_column p) (at null (struct_column p).rows picks) (record { kind = struct_of p.types; nullability = n }) (struct_column q)
  is_take-any missing picks n across left =
      let bits = left_of n (λ b. at false b picks) left in
      is_step-nested (stored_structs p) (stored_structs q) refl refl (kind-struct p q types) _ _
      (ap (λ r. stored_rows q.valid (map fields_row r)) across
      ∙ take-stored fields_row missing (rows_across p.columns p.len) p.valid q.valid n (fit-struct p h) picks bits)
      n bits

  -- row 0 at each null pick
  pub is_take-struct : (picks : List (Option ℕ)) (n : Nullability) → AreBelow picks p.len → AreBelow (firsts_for_nulls picks) p.len → q.len ≡ length picks → AreSteps (λ rows. at null rows (firsts_for_nulls picks)) p.columns q.columns → IsLeft p.valid n (at false (present_bits p.valid p.len) picks) q.valid → IsStep (struct_column p) (at null (struct_column p).rows picks) (record { kind = struct_of p.types; nullability = n }) (struct_column q)
  is_take-struct picks n below firsts len steps left =
      let long : length picks ≡ length (firsts_for_nulls picks) = sym (length-map picks _) in
      is_take-any (get_or (rows_across p.columns p.len) 0 []) picks n
      (ap (rows_across q.columns) (len ∙ long)
      ∙ across-take p.len p.columns q.columns (long-struct p h) (firsts_for_nulls picks) (there-firsts picks) firsts steps
      ∙ at-firsts [] (rows_across p.columns p.len) picks p.len below (length-rows_across p.columns p.len (long-struct p h)))
      left

  -- of no rows, whatever rows of the fields' types are there
  pub is_take-none : (row : List RowValue) (picks : List (Option ℕ)) (n : Nullability) → p.len ≡ 0 → AreBelow picks p.len → rows_across q.columns q.len ≡ replicate (length picks) row → IsLeft p.valid n (at false (present_bits p.valid p.len) picks) q.valid → IsStep (struct_column p) (at null (struct_column p).rows picks) (record { kind = struct_of p.types; nullability = n }) (struct_column q)
  is_take-none row picks n empty below rows left =
      is_take-any row picks n (rows ∙ sym (all_null picks below)) left
    where
      all_null : (picks : List (Option ℕ)) → AreBelow picks p.len → at row (rows_across p.columns p.len) picks ≡ replicate (length picks) row
      all_null [] below = refl
      all_null (None ∷ picks) below = ap (λ l. row ∷ l) (all_null picks (λ k d l. below (suc k) d (omega arith)))
      all_null (Some k ∷ picks) below = absurd (let low : k < p.len = below zero None (omega arith) in omega (arith, low, empty))

  -- the same rows of the fields under a validity that says the same
  pub is_same-struct : q.len ≡ p.len → AreSteps (λ rows. rows) p.columns q.columns → IsLeft p.valid (nullability_by p.valid) (present_bits p.valid p.len) q.valid → IsStep (struct_column p) (struct_column p).rows (struct_column p).dtype (struct_column q)
  is_same-struct len steps left =
      let across : rows_across q.columns q.len ≡ rows_across p.columns p.len =
      ap (rows_across q.columns) len ∙ across-same p.len p.columns q.columns (long-struct p h) steps in
      let bits = left_of (nullability_by p.valid) (λ b. b) left in
      let m = length (stored_structs p).items in
      is_step-nested (stored_structs p) (stored_structs q) refl refl (kind-struct p q types) _ _
      (ap (λ r. stored_rows q.valid (map fields_row r)) across
      ∙ ap (λ b. shown_rows b (stored_structs p).items) (ap (present_bits q.valid) (sym (length-present_bits p.valid m (fit-struct p h))) ∙ bits.bits))
      (nullability_by p.valid) bits
