-- What a step leaves of a union's sound parts is sound, and is that step over its rows.
use Rattle.std.proofs.Common.{◌≡◌, ℕ, ℤ, zero, suc, ◌-◌, ◌<◌, ◌≤◌, Bool, true, false, List, [], ◌∷◌, map, length, take, drop, get_or, slice_range, Option, None, Some, refl, sym, ap, ap₂, ◌∙◌, subst, arith}
use Rattle.std.specs.Prelude.{◌==◌, ◌&&◌, replicate, if◌then◌else◌}
use Rattle.std.specs.Cmp.{first_so, second_so}
use Rattle.std.specs.List.{items_where_true, list_all}
use Rattle.std.proofs.lemmas.Bool.Decides.{nat_tests}
use Rattle.std.proofs.lemmas.List.{length-map}
use Rattle.vx_bits.specs.BitBuffer.{true_count_of}
use Rattle.vx_types.specs.RowValue.{RowValue, null}
use Rattle.vx_types.specs.Same.{are_same_types}
use Rattle.vx_types.specs.TypeTree.{TypeKind, TypeTree, is_int_kind, primitive_kind}
use Rattle.vx_types.specs.declared.nullability.Nullability.{Nullability}
use Rattle.vx_types.specs.Same.{is_same_kind}
use Rattle.vx_types.specs.declared.ptype.PType.TheVariants.{U8}
use Rattle.vx_take.specs.Picks.{AreBelow, at, item_at}
use Rattle.vx_offsets.specs.Offsets.{offset_positions}
use Rattle.vx_positions.specs.Positions.{is_position, position_of, positions_of}
use Rattle.vx_model.specs.Column.{Column}
use Rattle.vx_model.specs.Columns.{AreCuts, AreSteps, are_long, firsts_for_nulls, rows_across, types_in}
use Rattle.vx_model.specs.Numbers.{integer_by, integers_of, number_in, numbers_of}
use Rattle.vx_model.specs.Records.{RecordParts, records_with}
use Rattle.vx_model.specs.Step.{IsCut, IsSlice, IsStep, IsTake}
use Rattle.vx_model.specs.Union.{UnionParts, are_inside, are_places, candidates, candidates_of, has_place, has_row, have_rows, is_known, is_union_long, offsets_kind, rows_at, tags_of, union_column, union_fault}
use Rattle.vx_types.specs.Variants.{is_id_type}
use Rattle.vx_model.specs.Valid.{non_nullable}
use Rattle.vx_model.specs.VarBin.{are_integers, is_never_null}
use Rattle.vx_model.proofs.Across.{across-filter, across-same, across-slice, across-take, at-firsts, depth-cuts, length-rows_across, long-filter, long-same, long-slice, long-take, steps-cuts, there-firsts, types-steps}
use Rattle.vx_model.proofs.Items.{length-slice_range, map-items_where_true, map-slice_range}
use Rattle.vx_model.proofs.Takes.{map-at}
use Rattle.vx_model.proofs.UnionSteps.{alike-union, id_type-union, inside-union, is_filter-union, is_slice-union, is_step-union, is_take-union, known-union, length-tags, long-union, places-union, places-filter, places-slice, places-take, rows-left, tags-filter, tags-slice, tags-take}
use Rattle.vx_lemmas.proofs.Tests.{all-kept, all-slice}
use Rattle.vx_take.proofs.TakenLists.{all-at}
use Rattle.vx_mask.proofs.RankedItems.{length-items_where_true}

-- ---- what holds of ids beside offsets holds of those that are left

module _ (ids : List ℕ) (cs : List Column) where
  none-inside : (tags : List (Option ℕ)) → have_rows ids cs tags [] ≡ true
  none-inside [] = refl
  none-inside (t ∷ tags) = refl

  drop-inside : (n : ℕ) (tags : List (Option ℕ)) (zs : List ℤ) → have_rows ids cs tags zs ≡ true → have_rows ids cs (drop n tags) (drop n zs) ≡ true
  drop-inside zero tags zs h = h
  drop-inside (suc n) [] zs h = refl
  drop-inside (suc n) (t ∷ tags) [] h = none-inside (drop n tags)
  drop-inside (suc n) (t ∷ tags) (z ∷ zs) h = drop-inside n tags zs (second_so (has_row ids cs t z) (have_rows ids cs tags zs) h)

  take-inside : (n : ℕ) (tags : List (Option ℕ)) (zs : List ℤ) → have_rows ids cs tags zs ≡ true → have_rows ids cs (take n tags) (take n zs) ≡ true
  take-inside zero tags zs h = refl
  take-inside (suc n) [] zs h = refl
  take-inside (suc n) (t ∷ tags) [] h = refl
  take-inside (suc n) (t ∷ tags) (z ∷ zs) h =
      rw (first_so (has_row ids cs t z) (have_rows ids cs tags zs) h, take-inside n tags zs (second_so (has_row ids cs t z) (have_rows ids cs tags zs) h)) refl

  slice-inside : (tags : List (Option ℕ)) (zs : List ℤ) (s e : ℕ) → have_rows ids cs tags zs ≡ true → have_rows ids cs (slice_range tags s e) (slice_range zs s e) ≡ true
  slice-inside tags zs s e h = take-inside (e - s) (drop s tags) (drop s zs) (drop-inside s tags zs h)

  filter-inside : (mask : List Bool) (tags : List (Option ℕ)) (zs : List ℤ) → have_rows ids cs tags zs ≡ true → have_rows ids cs (items_where_true mask tags) (items_where_true mask zs) ≡ true
  filter-inside [] tags zs h = refl
  filter-inside (b ∷ mask) [] zs h = refl
  filter-inside (b ∷ mask) (t ∷ tags) [] h = none-inside (items_where_true (b ∷ mask) (t ∷ tags))
  filter-inside (true ∷ mask) (t ∷ tags) (z ∷ zs) h =
      rw (first_so (has_row ids cs t z) (have_rows ids cs tags zs) h, filter-inside mask tags zs (second_so (has_row ids cs t z) (have_rows ids cs tags zs) h)) refl
  filter-inside (false ∷ mask) (t ∷ tags) (z ∷ zs) h = filter-inside mask tags zs (second_so (has_row ids cs t z) (have_rows ids cs tags zs) h)

  get-inside : (z : ℤ) (k : ℕ) (tags : List (Option ℕ)) (zs : List ℤ) → length tags ≡ length zs → have_rows ids cs tags zs ≡ true → has_row ids cs (get_or tags k None) (get_or zs k z) ≡ true
  get-inside z k [] [] l h = refl
  get-inside z k [] (y ∷ zs) l h = refl
  get-inside z k (t ∷ tags) [] l h = absurd (omega arith)
  get-inside z zero (t ∷ tags) (y ∷ zs) l h = first_so (has_row ids cs t y) (have_rows ids cs tags zs) h
  get-inside z (suc k) (t ∷ tags) (y ∷ zs) l h = get-inside z k tags zs (omega arith) (second_so (has_row ids cs t y) (have_rows ids cs tags zs) h)

  at-inside : (z : ℤ) (picks : List (Option ℕ)) (tags : List (Option ℕ)) (zs : List ℤ) → length tags ≡ length zs → have_rows ids cs tags zs ≡ true → have_rows ids cs (at None tags picks) (at z zs picks) ≡ true
  at-inside z [] tags zs l h = refl
  at-inside z (None ∷ picks) tags zs l h = at-inside z picks tags zs l h
  at-inside z (Some k ∷ picks) tags zs l h = rw (get-inside z k tags zs l h, at-inside z picks tags zs l h) refl

-- ---- columns of the same rows

-- a place is one of theirs alike, and has the same rows
module _ (ids : List ℕ) where
  same-place : (cs left : List Column) (id : ℕ) (z : ℤ) → (ids : List ℕ) → AreSteps (λ rows. rows) cs left → has_place ids left id z ≡ has_place ids cs id z
  same-place cs left id z [] steps = refl
  same-place [] [] id z (v ∷ vs) steps = refl
  same-place [] (a ∷ left) id z (v ∷ vs) steps = absurd steps
  same-place (c ∷ cs) [] id z (v ∷ vs) steps = absurd steps
  same-place (c ∷ cs) (a ∷ left) id z (v ∷ vs) steps =
      ap₂ (λ n r. if v == id then is_position n z else r) (ap length steps.0.rows) (same-place cs left id z vs steps.1)

  same-row : (cs left : List Column) (t : Option ℕ) (z : ℤ) → AreSteps (λ rows. rows) cs left → has_row ids left t z ≡ has_row ids cs t z
  same-row cs left None z steps = refl
  same-row cs left (Some id) z steps = same-place cs left id z ids steps

  pub same-inside : (cs left : List Column) (tags : List (Option ℕ)) (zs : List ℤ) → AreSteps (λ rows. rows) cs left → have_rows ids left tags zs ≡ have_rows ids cs tags zs
  same-inside cs left [] zs steps = refl
  same-inside cs left (t ∷ tags) [] steps = refl
  same-inside cs left (t ∷ tags) (z ∷ zs) steps = ap₂ ◌&&◌ (same-row cs left t z steps) (same-inside cs left tags zs steps)

rows-same : (cs left : List Column) (k : ℕ) → AreSteps (λ rows. rows) cs left → map (λ (c : Column). get_or c.rows k null) left ≡ map (λ (c : Column). get_or c.rows k null) cs
rows-same [] [] k steps = refl
rows-same [] (a ∷ left) k steps = absurd steps
rows-same (c ∷ cs) [] k steps = absurd steps
rows-same (c ∷ cs) (a ∷ left) k steps =
    ap₂ (λ (r : RowValue) l. r ∷ l) (ap (λ rows. get_or rows k null) steps.0.rows) (rows-same cs left k steps.1)

pub rows_at-same : (cs left : List Column) (places : List ℕ) → AreSteps (λ rows. rows) cs left → rows_at left places ≡ rows_at cs places
rows_at-same cs left [] steps = refl
rows_at-same cs left (k ∷ places) steps = ap₂ ◌∷◌ (rows-same cs left k steps) (rows_at-same cs left places steps)

-- ---- sound parts

abbrev is_id_kind : TypeKind → Bool
is_id_kind k = is_same_kind k (primitive_kind U8)

integers-with : (o : RecordParts) (records : List (List ℕ)) → are_integers o ≡ true → are_integers (records_with o records non_nullable) ≡ true
integers-with o records h = rw (first_so (is_int_kind o.kind) (is_never_null o.valid) h) refl

module _ (p : UnionParts) (h : union_fault p ≡ None) (a : Column) (kind : a.dtype.kind ≡ p.ids.dtype.kind) (known : list_all (is_known p.variants.ids) (positions_of (numbers_of a)) ≡ true) where
  id_type-left : is_id_type a.dtype ≡ true
  id_type-left = ap is_id_kind kind ∙ id_type-union p h

  pub fault-sparse : (cs : List Column) → types_in cs ≡ types_in p.columns → are_long (length a.rows) cs ≡ true → union_fault (record p { ids = a; offsets = None; columns = cs }) ≡ None
  fault-sparse cs types long =
      let alike : are_same_types (types_in cs) p.variants.types ≡ true = ap (λ ts. are_same_types ts p.variants.types) types ∙ alike-union p h in
      rw (id_type-left, alike, long, known) refl

  pub fault-dense : (o : RecordParts) (cs : List Column) → types_in cs ≡ types_in p.columns → are_integers o ≡ true → length o.records ≡ length a.rows → have_rows p.variants.ids cs (positions_of (numbers_of a)) (integers_of o) ≡ true → union_fault (record p { ids = a; offsets = Some o; columns = cs }) ≡ None
  fault-dense o cs types integers long inside =
      let alike : are_same_types (types_in cs) p.variants.types ≡ true = ap (λ ts. are_same_types ts p.variants.types) types ∙ alike-union p h in
      let same : (length o.records == length a.rows) ≡ true = grind (arith, nat_tests) in
      rw (id_type-left, integers, alike, same, inside, known) refl

-- ---- the ids that a step leaves are known

module _ (p : UnionParts) (h : union_fault p ≡ None) where
  known_tags : list_all (is_known p.variants.ids) (tags_of p) ≡ true
  known_tags = known-union p h

  pub known-slice : (a : Column) (s e : ℕ) → IsSlice p.ids s e a → list_all (is_known p.variants.ids) (positions_of (numbers_of a)) ≡ true
  known-slice a s e cut = ap (list_all (is_known p.variants.ids)) (tags-slice p.ids a s e cut) ∙ all-slice (is_known p.variants.ids) (tags_of p) s e known_tags

  pub known-filter : (a : Column) (mask : List Bool) → IsCut p.ids (items_where_true mask p.ids.rows) a → list_all (is_known p.variants.ids) (positions_of (numbers_of a)) ≡ true
  known-filter a mask cut = ap (list_all (is_known p.variants.ids)) (tags-filter p.ids a mask cut) ∙ all-kept (is_known p.variants.ids) mask (tags_of p) known_tags

  pub known-take : (a : Column) (picks : List (Option ℕ)) (n : Nullability) → IsTake p.ids picks n a → list_all (is_known p.variants.ids) (positions_of (numbers_of a)) ≡ true
  known-take a picks n step = ap (list_all (is_known p.variants.ids)) (tags-take p.ids a picks n step) ∙ all-at (is_known p.variants.ids) None (tags_of p) picks refl known_tags

  tags-same : (a : Column) → IsStep p.ids p.ids.rows p.ids.dtype a → positions_of (numbers_of a) ≡ tags_of p
  tags-same a step = ap positions_of (ap₂ (λ (t : TypeTree) rows. map (number_in t.kind) rows) step.dtype step.rows)

  pub known-same : (a : Column) → IsStep p.ids p.ids.rows p.ids.dtype a → list_all (is_known p.variants.ids) (positions_of (numbers_of a)) ≡ true
  known-same a step = ap (list_all (is_known p.variants.ids)) (tags-same a step) ∙ known_tags

-- ---- a sparse union

sparse-rows : (p : UnionParts) → p.offsets ≡ None → candidates_of p ≡ rows_across p.columns (length p.ids.rows)
sparse-rows p none = ap (λ o. candidates o p.columns (length p.ids.rows)) none

pub sparse-long : (p : UnionParts) → union_fault p ≡ None → p.offsets ≡ None → are_long (length p.ids.rows) p.columns ≡ true
sparse-long p h none = subst (λ o. is_union_long o p.columns (length p.ids.rows) ≡ true) none (long-union p h)

module _ (p : UnionParts) (h : union_fault p ≡ None) (none : p.offsets ≡ None) (a : Column) (cs : List Column) where
  abbrev sparse : UnionParts
  sparse = record p { ids = a; offsets = None; columns = cs }

  long : are_long (length p.ids.rows) p.columns ≡ true
  long = sparse-long p h none

  count-slice : (s e : ℕ) → s ≤ e → e ≤ length p.ids.rows → IsSlice p.ids s e a → length a.rows ≡ e - s
  count-slice s e o l cut = ap length cut.step.rows ∙ length-slice_range p.ids.rows s e o l

  pub fault-sparse-slice : (s e : ℕ) → s ≤ e → e ≤ length p.ids.rows → IsSlice p.ids s e a → AreCuts (λ rows. slice_range rows s e) p.columns cs → union_fault (record p { ids = a; offsets = None; columns = cs }) ≡ None
  fault-sparse-slice s e o l cut cuts =
      let steps = steps-cuts _ p.columns cs cuts in
      fault-sparse p h a (ap (λ (t : TypeTree). t.kind) cut.step.dtype) (known-slice p h a s e cut) cs (types-steps _ p.columns cs steps)
      (ap (λ n. are_long n cs) (count-slice s e o l cut) ∙ long-slice (length p.ids.rows) p.columns cs long s e o l steps)

  pub is_slice-sparse : (s e : ℕ) → s ≤ e → e ≤ length p.ids.rows → IsSlice p.ids s e a → AreCuts (λ rows. slice_range rows s e) p.columns cs → IsSlice (union_column p) s e (union_column (record p { ids = a; offsets = None; columns = cs }))
  is_slice-sparse s e o l cut cuts =
      let steps = steps-cuts _ p.columns cs cuts in
      let rows : rows_across cs (length a.rows) ≡ slice_range (candidates_of p) s e =
      ap (rows_across cs) (count-slice s e o l cut)
      ∙ across-slice (length p.ids.rows) p.columns cs long s e o l steps
      ∙ ap (λ r. slice_range r s e) (sym (sparse-rows p none)) in
      is_slice-union p sparse h refl (sym (ap offsets_kind none)) s e cut rows (omega (arith, cut.depth, depth-cuts _ p.columns cs cuts))

  count-filter : (mask : List Bool) → length mask ≡ length p.ids.rows → IsCut p.ids (items_where_true mask p.ids.rows) a → length a.rows ≡ true_count_of mask
  count-filter mask many cut = ap length cut.step.rows ∙ length-items_where_true mask p.ids.rows many

  pub fault-sparse-filter : (mask : List Bool) → length mask ≡ length p.ids.rows → IsCut p.ids (items_where_true mask p.ids.rows) a → AreCuts (items_where_true mask) p.columns cs → union_fault (record p { ids = a; offsets = None; columns = cs }) ≡ None
  fault-sparse-filter mask many cut cuts =
      let steps = steps-cuts _ p.columns cs cuts in
      fault-sparse p h a (ap (λ (t : TypeTree). t.kind) cut.step.dtype) (known-filter p h a mask cut) cs (types-steps _ p.columns cs steps)
      (ap (λ n. are_long n cs) (count-filter mask many cut) ∙ long-filter (length p.ids.rows) p.columns cs long mask many steps)

  pub is_filter-sparse : (mask : List Bool) → length mask ≡ length p.ids.rows → IsCut p.ids (items_where_true mask p.ids.rows) a → AreCuts (items_where_true mask) p.columns cs → IsCut (union_column p) (items_where_true mask (union_column p).rows) (union_column (record p { ids = a; offsets = None; columns = cs }))
  is_filter-sparse mask many cut cuts =
      let steps = steps-cuts _ p.columns cs cuts in
      let rows : rows_across cs (length a.rows) ≡ items_where_true mask (candidates_of p) =
      ap (rows_across cs) (count-filter mask many cut)
      ∙ across-filter (length p.ids.rows) p.columns cs long mask many steps
      ∙ ap (items_where_true mask) (sym (sparse-rows p none)) in
      is_filter-union p sparse h refl (sym (ap offsets_kind none)) mask cut rows (omega (arith, cut.depth, depth-cuts _ p.columns cs cuts))

  count-take : (picks : List (Option ℕ)) (n : Nullability) → IsTake p.ids picks n a → length a.rows ≡ length picks
  count-take picks n step = ap length step.rows ∙ length-map picks (item_at null p.ids.rows)

  -- whatever rows of the columns' types are there
  pub fault-sparse-any : (picks : List (Option ℕ)) (n : Nullability) → IsTake p.ids picks n a → types_in cs ≡ types_in p.columns → are_long (length picks) cs ≡ true → union_fault (record p { ids = a; offsets = None; columns = cs }) ≡ None
  fault-sparse-any picks n step types each =
      fault-sparse p h a (ap (λ (t : TypeTree). t.kind) step.dtype) (known-take p h a picks n step) cs types
      (ap (λ m. are_long m cs) (count-take picks n step) ∙ each)

  -- row 0 at each null pick
  pub fault-sparse-take : (picks : List (Option ℕ)) (n : Nullability) → IsTake p.ids picks n a → AreSteps (λ rows. at null rows (firsts_for_nulls picks)) p.columns cs → union_fault (record p { ids = a; offsets = None; columns = cs }) ≡ None
  fault-sparse-take picks n step steps =
      let many : length (firsts_for_nulls picks) ≡ length picks = length-map picks _ in
      fault-sparse-any picks n step (types-steps _ p.columns cs steps)
      (ap (λ m. are_long m cs) (sym many) ∙ long-take (length p.ids.rows) p.columns cs long (firsts_for_nulls picks) steps)

  pub is_take-sparse : (picks : List (Option ℕ)) (n : Nullability) → AreBelow picks (length p.ids.rows) → AreBelow (firsts_for_nulls picks) (length p.ids.rows) → IsTake p.ids picks n a → AreSteps (λ rows. at null rows (firsts_for_nulls picks)) p.columns cs → IsTake (union_column p) picks n (union_column (record p { ids = a; offsets = None; columns = cs }))
  is_take-sparse picks n below firsts step steps =
      let many : length picks ≡ length (firsts_for_nulls picks) = sym (length-map picks _) in
      let len = length p.ids.rows in
      let rows : rows_across cs (length a.rows) ≡ at (get_or (rows_across p.columns len) 0 []) (candidates_of p) picks =
      ap (rows_across cs) (count-take picks n step ∙ many)
      ∙ across-take len p.columns cs long (firsts_for_nulls picks) (there-firsts picks) firsts steps
      ∙ at-firsts [] (rows_across p.columns len) picks len below (length-rows_across p.columns len long)
      ∙ ap (λ r. at (get_or (rows_across p.columns len) 0 []) r picks) (sym (sparse-rows p none)) in
      is_take-union p sparse h refl (sym (ap offsets_kind none)) (get_or (rows_across p.columns len) 0 []) picks n step rows

  -- of no rows
  pub is_take-sparse-none : (row : List RowValue) (picks : List (Option ℕ)) (n : Nullability) → length p.ids.rows ≡ 0 → AreBelow picks (length p.ids.rows) → IsTake p.ids picks n a → rows_across cs (length picks) ≡ replicate (length picks) row → IsTake (union_column p) picks n (union_column (record p { ids = a; offsets = None; columns = cs }))
  is_take-sparse-none row picks n empty below step filled =
      is_take-union p sparse h refl (sym (ap offsets_kind none)) row picks n step
      (ap (rows_across cs) (count-take picks n step) ∙ filled ∙ sym (all_null picks below))
    where
      all_null : (picks : List (Option ℕ)) → AreBelow picks (length p.ids.rows) → at row (candidates_of p) picks ≡ replicate (length picks) row
      all_null [] below = refl
      all_null (None ∷ picks) below = ap (λ l. row ∷ l) (all_null picks (λ k d l. below (suc k) d (omega arith)))
      all_null (Some k ∷ picks) below = absurd (let low : k < length p.ids.rows = below zero None (omega arith) in omega (arith, low, empty))

-- ---- a dense union

pub dense-places : (p : UnionParts) (o : RecordParts) → union_fault p ≡ None → p.offsets ≡ Some o → are_integers o ≡ true
dense-places p o h some = subst (λ x. are_places x ≡ true) some (places-union p h)

pub dense-long : (p : UnionParts) (o : RecordParts) → union_fault p ≡ None → p.offsets ≡ Some o → length o.records ≡ length p.ids.rows
dense-long p o h some =
    let same : (length o.records == length p.ids.rows) ≡ true = subst (λ x. is_union_long x p.columns (length p.ids.rows) ≡ true) some (long-union p h) in
    grind (arith, nat_tests)

dense-inside : (p : UnionParts) (o : RecordParts) → union_fault p ≡ None → p.offsets ≡ Some o → have_rows p.variants.ids p.columns (tags_of p) (integers_of o) ≡ true
dense-inside p o h some = subst (λ x. are_inside p x ≡ true) some (inside-union p h)

dense-rows : (p : UnionParts) (o : RecordParts) → p.offsets ≡ Some o → candidates_of p ≡ rows_at p.columns (offset_positions (integers_of o))
dense-rows p o some = ap (λ x. candidates x p.columns (length p.ids.rows)) some

module _ (p : UnionParts) (o : RecordParts) (h : union_fault p ≡ None) (some : p.offsets ≡ Some o) (a : Column) where
  abbrev dense : List (List ℕ) → UnionParts
  dense records = record p { ids = a; offsets = Some (records_with o records non_nullable) }

  many : length (tags_of p) ≡ length (integers_of o)
  many = length-tags p h ∙ sym (dense-long p o h some) ∙ sym (length-map o.records (integer_by o.kind))

  fault-records : (records : List (List ℕ)) → a.dtype.kind ≡ p.ids.dtype.kind → list_all (is_known p.variants.ids) (positions_of (numbers_of a)) ≡ true → length records ≡ length a.rows → have_rows p.variants.ids p.columns (positions_of (numbers_of a)) (map (integer_by o.kind) records) ≡ true → union_fault (dense records) ≡ None
  fault-records records kind known long inside =
      fault-dense p h a kind known (records_with o records non_nullable) p.columns refl (integers-with o records (dense-places p o h some)) long inside

  pub fault-dense-slice : (s e : ℕ) → s ≤ e → e ≤ length p.ids.rows → IsSlice p.ids s e a → union_fault (record p { ids = a; offsets = Some (records_with o (slice_range o.records s e) non_nullable) }) ≡ None
  fault-dense-slice s e ord l cut =
      let records = slice_range o.records s e in
      let long : length records ≡ length a.rows =
      length-slice_range o.records s e ord (omega (arith, l, dense-long p o h some)) ∙ sym (ap length cut.step.rows ∙ length-slice_range p.ids.rows s e ord l) in
      fault-records records (ap (λ (t : TypeTree). t.kind) cut.step.dtype) (known-slice p h a s e cut) long
      (ap₂ (have_rows p.variants.ids p.columns) (tags-slice p.ids a s e cut) (map-slice_range (integer_by o.kind) o.records s e)
      ∙ slice-inside p.variants.ids p.columns (tags_of p) (integers_of o) s e (dense-inside p o h some))

  pub is_slice-dense : (s e : ℕ) → IsSlice p.ids s e a → IsSlice (union_column p) s e (union_column (record p { ids = a; offsets = Some (records_with o (slice_range o.records s e) non_nullable) }))
  is_slice-dense s e cut =
      let rows : rows_at p.columns (offset_positions (map (integer_by o.kind) (slice_range o.records s e))) ≡ slice_range (candidates_of p) s e =
      ap (λ zs. rows_at p.columns (offset_positions zs)) (map-slice_range (integer_by o.kind) o.records s e)
      ∙ ap (rows_at p.columns) (map-slice_range position_of (integers_of o) s e)
      ∙ places-slice p.columns (offset_positions (integers_of o)) s e
      ∙ ap (λ r. slice_range r s e) (sym (dense-rows p o some)) in
      is_slice-union p (dense (slice_range o.records s e)) h refl (sym (ap offsets_kind some)) s e cut rows (omega (arith, cut.depth))

  pub fault-dense-filter : (mask : List Bool) → length mask ≡ length p.ids.rows → IsCut p.ids (items_where_true mask p.ids.rows) a → union_fault (record p { ids = a; offsets = Some (records_with o (items_where_true mask o.records) non_nullable) }) ≡ None
  fault-dense-filter mask count cut =
      let records = items_where_true mask o.records in
      let long : length records ≡ length a.rows =
      length-items_where_true mask o.records (count ∙ sym (dense-long p o h some)) ∙ sym (ap length cut.step.rows ∙ length-items_where_true mask p.ids.rows count) in
      fault-records records (ap (λ (t : TypeTree). t.kind) cut.step.dtype) (known-filter p h a mask cut) long
      (ap₂ (have_rows p.variants.ids p.columns) (tags-filter p.ids a mask cut) (map-items_where_true (integer_by o.kind) mask o.records)
      ∙ filter-inside p.variants.ids p.columns mask (tags_of p) (integers_of o) (dense-inside p o h some))

  pub is_filter-dense : (mask : List Bool) → IsCut p.ids (items_where_true mask p.ids.rows) a → IsCut (union_column p) (items_where_true mask (union_column p).rows) (union_column (record p { ids = a; offsets = Some (records_with o (items_where_true mask o.records) non_nullable) }))
  is_filter-dense mask cut =
      let rows : rows_at p.columns (offset_positions (map (integer_by o.kind) (items_where_true mask o.records))) ≡ items_where_true mask (candidates_of p) =
      ap (λ zs. rows_at p.columns (offset_positions zs)) (map-items_where_true (integer_by o.kind) mask o.records)
      ∙ ap (rows_at p.columns) (map-items_where_true position_of mask (integers_of o))
      ∙ places-filter p.columns (offset_positions (integers_of o)) mask
      ∙ ap (items_where_true mask) (sym (dense-rows p o some)) in
      is_filter-union p (dense (items_where_true mask o.records)) h refl (sym (ap offsets_kind some)) mask cut rows (omega (arith, cut.depth))

  -- whatever record is valid at a null pick
  pub fault-dense-take : (filler : List ℕ) (picks : List (Option ℕ)) (n : Nullability) → IsTake p.ids picks n a → union_fault (record p { ids = a; offsets = Some (records_with o (at filler o.records picks) non_nullable) }) ≡ None
  fault-dense-take filler picks n step =
      let records = at filler o.records picks in
      let long : length records ≡ length a.rows = length-map picks (item_at filler o.records) ∙ sym (ap length step.rows ∙ length-map picks (item_at null p.ids.rows)) in
      fault-records records (ap (λ (t : TypeTree). t.kind) step.dtype) (known-take p h a picks n step) long
      (ap₂ (have_rows p.variants.ids p.columns) (tags-take p.ids a picks n step) (map-at (integer_by o.kind) filler o.records picks)
      ∙ at-inside p.variants.ids p.columns (integer_by o.kind filler) picks (tags_of p) (integers_of o) many (dense-inside p o h some))

  pub is_take-dense : (filler : List ℕ) (picks : List (Option ℕ)) (n : Nullability) → IsTake p.ids picks n a → IsTake (union_column p) picks n (union_column (record p { ids = a; offsets = Some (records_with o (at filler o.records picks) non_nullable) }))
  is_take-dense filler picks n step =
      let z = integer_by o.kind filler in
      let k = position_of z in
      let missing : List RowValue = map (λ (c : Column). get_or c.rows k null) p.columns in
      let rows : rows_at p.columns (offset_positions (map (integer_by o.kind) (at filler o.records picks))) ≡ at missing (candidates_of p) picks =
      ap (λ zs. rows_at p.columns (offset_positions zs)) (map-at (integer_by o.kind) filler o.records picks)
      ∙ ap (rows_at p.columns) (map-at position_of z (integers_of o) picks)
      ∙ places-take p.columns (offset_positions (integers_of o)) k picks
      ∙ ap (λ r. at missing r picks) (sym (dense-rows p o some)) in
      is_take-union p (dense (at filler o.records picks)) h refl (sym (ap offsets_kind some)) missing picks n step rows

-- ---- the same rows of ids and columns that are stored otherwise

module _ (p : UnionParts) (h : union_fault p ≡ None) (a : Column) (step : IsStep p.ids p.ids.rows p.ids.dtype a) (cs : List Column) (steps : AreSteps (λ rows. rows) p.columns cs) where
  abbrev same : UnionParts
  same = record p { ids = a; columns = cs }

  types : types_in cs ≡ types_in p.columns
  types = types-steps _ p.columns cs steps

  pub fault-union-same : union_fault (record p { ids = a; columns = cs }) ≡ None
  fault-union-same = by p.offsets refl
    where
      by : (o : Option RecordParts) → p.offsets ≡ o → union_fault (record p { ids = a; columns = cs }) ≡ None
      by None none =
          subst (λ x. union_fault (record p { ids = a; offsets = x; columns = cs }) ≡ None) (sym none)
          (fault-sparse p h a (ap (λ (t : TypeTree). t.kind) step.dtype) (known-same p h a step) cs types
          (ap (λ rows. are_long (length rows) cs) step.rows ∙ long-same (length p.ids.rows) p.columns cs (sparse-long p h none) steps))
      by (Some o) some =
          subst (λ x. union_fault (record p { ids = a; offsets = x; columns = cs }) ≡ None) (sym some)
          (fault-dense p h a (ap (λ (t : TypeTree). t.kind) step.dtype) (known-same p h a step) o cs types (dense-places p o h some)
          (dense-long p o h some ∙ ap length (sym step.rows))
          (ap (λ tags. have_rows p.variants.ids cs tags (integers_of o)) (tags-same p h a step)
          ∙ same-inside p.variants.ids p.columns cs (tags_of p) (integers_of o) steps
          ∙ dense-inside p o h some))

  candidates-same : candidates_of same ≡ candidates_of p
  candidates-same = by p.offsets (long-union p h)
    where
      by : (o : Option RecordParts) → is_union_long o p.columns (length p.ids.rows) ≡ true → candidates o cs (length a.rows) ≡ candidates o p.columns (length p.ids.rows)
      by None long = ap (λ rows. rows_across cs (length rows)) step.rows ∙ across-same (length p.ids.rows) p.columns cs long steps
      by (Some o) long = rows_at-same p.columns cs (offset_positions (integers_of o)) steps

  pub is_same-union : IsStep (union_column p) (union_column p).rows (union_column p).dtype (union_column (record p { ids = a; columns = cs }))
  is_same-union =
      is_step-union p same h refl refl (union_column p).rows p.ids.dtype (rows-left p same h refl refl (tags_of p) (candidates_of p) (tags-same p h a step) candidates-same) step.dtype
