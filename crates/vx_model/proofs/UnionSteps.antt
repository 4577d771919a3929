-- The rows of unions, and what a step over ids, offsets and columns leaves of them.
use Rattle.std.proofs.Common.{◌≡◌, ℕ, ℤ, pos, negsuc, zero, suc, ◌-◌, ◌<◌, ◌≤◌, Bool, true, false, List, [], ◌∷◌, map, length, take, drop, get_or, slice_range, Option, None, Some, refl, sym, ap, ap₂, ◌∙◌, subst, arith}
use Rattle.std.specs.Prelude.{◌==◌, ◌&&◌, ◌||◌, if◌then◌else◌}
use Rattle.std.specs.Option.{option_map}
use Rattle.std.specs.Cmp.{first_so, second_so}
use Rattle.std.specs.List.{items_where_true, list_all, list_any}
use Rattle.std.proofs.lemmas.Bool.Decides.{nat_tests}
use Rattle.std.proofs.lemmas.List.{length-map, get_or-map}
use Rattle.vx_types.specs.FieldTypes.{VariantTypes}
use Rattle.vx_types.specs.Same.{are_same_types, is_same_type}
use Rattle.vx_types.specs.TypeTree.{TypeTree, also_nullable}
use Rattle.vx_types.specs.RowValue.{RowValue, null, tagged}
use Rattle.vx_types.specs.declared.error.ColumnError.TheVariants.{WrongType, WrongLength, BadOffsets, BadTypeId}
use Rattle.vx_types.specs.declared.nullability.Nullability.{Nullability}
use Rattle.vx_take.specs.Picks.{at}
use Rattle.vx_offsets.specs.Offsets.{offset_positions}
use Rattle.vx_positions.specs.Positions.{is_position, position_of, positions_of}
use Rattle.vx_model.specs.Column.{Column}
use Rattle.vx_model.specs.Columns.{types_in}
use Rattle.vx_model.specs.Numbers.{integer_by, integers_of, numbers_of}
use Rattle.vx_model.specs.Records.{RecordParts}
use Rattle.vx_model.specs.Step.{IsCut, IsSlice, IsStep, IsTake}
use Rattle.vx_model.specs.Union.{UnionParts, IsPlace, are_inside, are_known, are_places, are_union_types, candidates, candidates_of, row_by_id, has_place, has_row, have_rows, is_known, is_union_long, offsets_kind, place_at, rows_at, tagged_rows, tags_of, union_column, union_fault, union_row, union_rows}
use Rattle.vx_types.specs.Variants.{index_of, is_id_type}
use Rattle.vx_model.proofs.Across.{length-rows_across, long-get, row-rows_across}
use Rattle.vx_model.proofs.CodeNumbers.{numbers_of-filter, numbers_of-slice, numbers_of-take}
use Rattle.vx_model.proofs.Items.{map-items_where_true, map-slice_range}
use Rattle.vx_model.proofs.Takes.{map-at}

-- ---- sound parts

module _ (p : UnionParts) (h : union_fault p ≡ None) where
  holds : (a b c d : Bool) → (if a then (if b then (if c then (if d then None else Some BadTypeId) else Some BadOffsets) else Some WrongLength) else Some WrongType) ≡ None → (a ≡ true) × ((b ≡ true) × ((c ≡ true) × (d ≡ true)))
  holds true true true true h = (refl, (refl, (refl, refl)))
  holds true true true false h = cc
  holds true true false d h = cc
  holds true false c d h = cc
  holds false b c d h = cc

  all_hold : (are_union_types p ≡ true) × ((is_union_long p.offsets p.columns (length p.ids.rows) ≡ true) × ((are_inside p p.offsets ≡ true) × (are_known p ≡ true)))
  all_hold = holds (are_union_types p) (is_union_long p.offsets p.columns (length p.ids.rows)) (are_inside p p.offsets) (are_known p) h

  pub types-union : are_union_types p ≡ true
  types-union = all_hold.0

  pub long-union : is_union_long p.offsets p.columns (length p.ids.rows) ≡ true
  long-union = all_hold.1.0

  pub inside-union : are_inside p p.offsets ≡ true
  inside-union = all_hold.1.1.0

  pub known-union : are_known p ≡ true
  known-union = all_hold.1.1.1

-- ---- ids beside rows, one by one

module _ (ids : List ℕ) where
  pub length-tagged : (tags : List (Option ℕ)) (rows : List (List RowValue)) → length tags ≡ length rows → length (tagged_rows ids tags rows) ≡ length rows
  length-tagged [] [] h = refl
  length-tagged [] (r ∷ rows) h = absurd (omega arith)
  length-tagged (t ∷ tags) [] h = absurd (omega arith)
  length-tagged (t ∷ tags) (r ∷ rows) h = omega (arith, length-tagged tags rows (omega arith))

  tagged-none : (tags : List (Option ℕ)) → tagged_rows ids tags [] ≡ []
  tagged-none [] = refl
  tagged-none (t ∷ tags) = refl

  take-tagged : (n : ℕ) (tags : List (Option ℕ)) (rows : List (List RowValue)) → take n (tagged_rows ids tags rows) ≡ tagged_rows ids (take n tags) (take n rows)
  take-tagged zero tags rows = refl
  take-tagged (suc n) [] rows = refl
  take-tagged (suc n) (t ∷ tags) [] = refl
  take-tagged (suc n) (t ∷ tags) (r ∷ rows) = ap (λ l. union_row ids t r ∷ l) (take-tagged n tags rows)

  drop-tagged : (n : ℕ) (tags : List (Option ℕ)) (rows : List (List RowValue)) → drop n (tagged_rows ids tags rows) ≡ tagged_rows ids (drop n tags) (drop n rows)
  drop-tagged zero tags rows = refl
  drop-tagged (suc n) [] rows = refl
  drop-tagged (suc n) (t ∷ tags) [] = sym (tagged-none (drop n tags))
  drop-tagged (suc n) (t ∷ tags) (r ∷ rows) = drop-tagged n tags rows

  pub slice-tagged : (tags : List (Option ℕ)) (rows : List (List RowValue)) (s e : ℕ) → slice_range (tagged_rows ids tags rows) s e ≡ tagged_rows ids (slice_range tags s e) (slice_range rows s e)
  slice-tagged tags rows s e = ap (take (e - s)) (drop-tagged s tags rows) ∙ take-tagged (e - s) (drop s tags) (drop s rows)

  pub filter-tagged : (mask : List Bool) (tags : List (Option ℕ)) (rows : List (List RowValue)) → items_where_true mask (tagged_rows ids tags rows) ≡ tagged_rows ids (items_where_true mask tags) (items_where_true mask rows)
  filter-tagged [] tags rows = refl
  filter-tagged (b ∷ mask) [] rows = refl
  filter-tagged (b ∷ mask) (t ∷ tags) [] = sym (tagged-none (items_where_true (b ∷ mask) (t ∷ tags)))
  filter-tagged (true ∷ mask) (t ∷ tags) (r ∷ rows) = ap (λ l. union_row ids t r ∷ l) (filter-tagged mask tags rows)
  filter-tagged (false ∷ mask) (t ∷ tags) (r ∷ rows) = filter-tagged mask tags rows

  pub get_or-tagged : (tags : List (Option ℕ)) (rows : List (List RowValue)) (i : ℕ) (r : List RowValue) → length tags ≡ length rows → get_or (tagged_rows ids tags rows) i null ≡ union_row ids (get_or tags i None) (get_or rows i r)
  get_or-tagged [] [] i r h = refl
  get_or-tagged [] (x ∷ rows) i r h = absurd (omega arith)
  get_or-tagged (t ∷ tags) [] i r h = absurd (omega arith)
  get_or-tagged (t ∷ tags) (x ∷ rows) zero r h = refl
  get_or-tagged (t ∷ tags) (x ∷ rows) (suc i) r h = get_or-tagged tags rows i r (omega arith)

  pub at-tagged : (tags : List (Option ℕ)) (rows : List (List RowValue)) (r : List RowValue) (picks : List (Option ℕ)) → length tags ≡ length rows → at null (tagged_rows ids tags rows) picks ≡ tagged_rows ids (at None tags picks) (at r rows picks)
  at-tagged tags rows r [] h = refl
  at-tagged tags rows r (None ∷ picks) h = ap (λ l. null ∷ l) (at-tagged tags rows r picks h)
  at-tagged tags rows r (Some k ∷ picks) h = ap₂ ◌∷◌ (get_or-tagged tags rows k r h) (at-tagged tags rows r picks h)

-- ---- as many rows as ids

module _ (p : UnionParts) (h : union_fault p ≡ None) where
  pub length-tags : length (tags_of p) ≡ length p.ids.rows
  length-tags = length-map (numbers_of p.ids) (option_map position_of) ∙ length-map p.ids.rows _

  pub length-candidates : length (candidates_of p) ≡ length p.ids.rows
  length-candidates = by p.offsets (long-union p h)
    where
      by : (offsets : Option RecordParts) → is_union_long offsets p.columns (length p.ids.rows) ≡ true → length (candidates offsets p.columns (length p.ids.rows)) ≡ length p.ids.rows
      by None long = length-rows_across p.columns (length p.ids.rows) long
      by (Some o) long =
          let same : length o.records ≡ length p.ids.rows = grind (arith, nat_tests) in
          length-map (offset_positions (integers_of o)) _ ∙ length-map (integers_of o) position_of ∙ length-map o.records _ ∙ same

  pub rows-union : length (union_column p).rows ≡ length p.ids.rows
  rows-union = length-tagged p.variants.ids (tags_of p) _ (length-tags ∙ sym length-candidates) ∙ length-candidates

  -- row i
  pub row-union : (i : ℕ) (r : List RowValue) → get_or (union_column p).rows i null ≡ union_row p.variants.ids (get_or (tags_of p) i None) (get_or (candidates_of p) i r)
  row-union i r = get_or-tagged p.variants.ids (tags_of p) _ i r (length-tags ∙ sym length-candidates)

-- ---- where a row is

-- what a variant of this id tells, by its place
found : {X : Type 0} (b : Bool) (o : Option ℕ) (k : ℕ) (here : X) (more : X) (at : ℕ → X) → (if b then Some 0 else option_map suc o) ≡ Some k → here ≡ at 0 → ((j : ℕ) → o ≡ Some j → more ≡ at (suc j)) → (if b then here else more) ≡ at k
found true o k here more at e h f = let same : 0 ≡ k = cc in subst (λ n. here ≡ at n) same h
found false None k here more at e h f = absurd cc
found false (Some j) k here more at e h f = let same : suc j ≡ k = cc in subst (λ n. more ≡ at n) same (f j refl)

-- the row of the variant of this id is that of the column in its place
pub chosen-index : (vs : List ℕ) (cs : List Column) (id place k : ℕ) (d : Column) → length vs ≡ length cs → index_of vs id ≡ Some k → row_by_id vs (map (λ (c : Column). get_or c.rows place null) cs) id ≡ get_or (get_or cs k d).rows place null
chosen-index [] cs id place k d many e = absurd cc
chosen-index (v ∷ vs) [] id place k d many e = absurd (omega arith)
chosen-index (v ∷ vs) (c ∷ cs) id place k d many e =
    found (v == id) (index_of vs id) k (get_or c.rows place null) (row_by_id vs (map (λ (c : Column). get_or c.rows place null) cs) id)
    (λ j. get_or (get_or (c ∷ cs) j d).rows place null) e refl
    (λ j is. chosen-index vs cs id place j d (omega arith) is)

pub place-index : (vs : List ℕ) (cs : List Column) (id : ℕ) (z : ℤ) (k : ℕ) (d : Column) → length vs ≡ length cs → index_of vs id ≡ Some k → has_place vs cs id z ≡ is_position (length (get_or cs k d).rows) z
place-index [] cs id z k d many e = absurd cc
place-index (v ∷ vs) [] id z k d many e = absurd (omega arith)
place-index (v ∷ vs) (c ∷ cs) id z k d many e =
    found (v == id) (index_of vs id) k (is_position (length c.rows) z) (has_place vs cs id z)
    (λ j. is_position (length (get_or (c ∷ cs) j d).rows) z) e refl
    (λ j is. place-index vs cs id z j d (omega arith) is)

pub index-below : (vs : List ℕ) (id k : ℕ) → index_of vs id ≡ Some k → k < length vs
index-below [] id k e = absurd cc
index-below (v ∷ vs) id k e = by (v == id) (index_of vs id) (λ j is. index-below vs id j is) e
  where
    by : (b : Bool) (o : Option ℕ) → ((j : ℕ) → o ≡ Some j → j < length vs) → (if b then Some 0 else option_map suc o) ≡ Some k → k < length (v ∷ vs)
    by true o f e = let same : 0 ≡ k = cc in omega (arith, same)
    by false None f e = absurd cc
    by false (Some j) f e = let same : suc j ≡ k = cc in omega (arith, same, f j refl)

pub known-index : (vs : List ℕ) (id : ℕ) → list_any (λ v. v == id) vs ≡ true → index_of vs id ≡ None → false ≡ true
known-index [] id h e = h
known-index (v ∷ vs) id h e = by (v == id) (index_of vs id) (λ g is. known-index vs id g is) h e
  where
    by : (b : Bool) (o : Option ℕ) → (list_any (λ v. v == id) vs ≡ true → o ≡ None → false ≡ true) → (b || list_any (λ v. v == id) vs) ≡ true → (if b then Some 0 else option_map suc o) ≡ None → false ≡ true
    by true o f h e = cc
    by false None f h e = f h refl
    by false (Some j) f h e = cc

-- of offsets that are inside, each is
inside-at : (ids : List ℕ) (cs : List Column) (tags : List (Option ℕ)) (zs : List ℤ) (i : ℕ) → have_rows ids cs tags zs ≡ true → i < length tags → i < length zs → has_row ids cs (get_or tags i None) (get_or zs i (pos 0)) ≡ true
inside-at ids cs [] zs i h l m = absurd (omega arith)
inside-at ids cs (t ∷ tags) [] i h l m = absurd (omega arith)
inside-at ids cs (t ∷ tags) (z ∷ zs) zero h l m = first_so (has_row ids cs t z) (have_rows ids cs tags zs) h
inside-at ids cs (t ∷ tags) (z ∷ zs) (suc i) h l m = inside-at ids cs tags zs i (second_so (has_row ids cs t z) (have_rows ids cs tags zs) h) (omega arith) (omega arith)

known-at : (ids : List ℕ) (tags : List (Option ℕ)) (i : ℕ) → list_all (is_known ids) tags ≡ true → i < length tags → is_known ids (get_or tags i None) ≡ true
known-at ids [] i h l = absurd (omega arith)
known-at ids (t ∷ tags) zero h l = first_so (is_known ids t) (list_all (is_known ids) tags) h
known-at ids (t ∷ tags) (suc i) h l = known-at ids tags i (second_so (is_known ids t) (list_all (is_known ids) tags) h) (omega arith)

-- as many columns as ids
pub same-many : (cs : List Column) (ts : List TypeTree) → are_same_types (types_in cs) ts ≡ true → length cs ≡ length ts
same-many [] [] h = refl
same-many [] (t ∷ ts) h = cc
same-many (c ∷ cs) [] h = cc
same-many (c ∷ cs) (t ∷ ts) h = ap suc (same-many cs ts (second_so (is_same_type c.dtype t) (are_same_types (types_in cs) ts) h))

is_position-below : (n : ℕ) (z : ℤ) → is_position n z ≡ true → position_of z < n
is_position-below n (pos i) h = grind (arith, nat_tests)
is_position-below n (negsuc i) h = cc

module _ (p : UnionParts) (h : union_fault p ≡ None) where
  pub alike-union : are_same_types (types_in p.columns) p.variants.types ≡ true
  alike-union =
      second_so (are_places p.offsets) (are_same_types (types_in p.columns) p.variants.types)
      (second_so (is_id_type p.ids.dtype) (are_places p.offsets && are_same_types (types_in p.columns) p.variants.types) (types-union p h))

  pub id_type-union : is_id_type p.ids.dtype ≡ true
  id_type-union = first_so (is_id_type p.ids.dtype) (are_places p.offsets && are_same_types (types_in p.columns) p.variants.types) (types-union p h)

  pub places-union : are_places p.offsets ≡ true
  places-union =
      first_so (are_places p.offsets) (are_same_types (types_in p.columns) p.variants.types)
      (second_so (is_id_type p.ids.dtype) (are_places p.offsets && are_same_types (types_in p.columns) p.variants.types) (types-union p h))

  -- for row i the rows that are candidates
  pub candidates-row : (i : ℕ) → i < length p.ids.rows → get_or (candidates_of p) i [] ≡ map (λ (c : Column). get_or c.rows (place_at p.offsets i) null) p.columns
  candidates-row i l = by p.offsets (long-union p h)
    where
      by : (offsets : Option RecordParts) → is_union_long offsets p.columns (length p.ids.rows) ≡ true → get_or (candidates offsets p.columns (length p.ids.rows)) i [] ≡ map (λ (c : Column). get_or c.rows (place_at offsets i) null) p.columns
      by None long = row-rows_across p.columns (length p.ids.rows) i [] long l
      by (Some o) long =
          let same : length o.records ≡ length p.ids.rows = grind (arith, nat_tests) in
          let many = length-map (integers_of o) position_of ∙ length-map o.records _ ∙ same in
          get_or-map (λ (k : ℕ). map (λ (c : Column). get_or c.rows k null) p.columns) (offset_positions (integers_of o)) i 0 [] (omega (arith, l, many))

  -- row i, where its id is that of the variant in place k
  pub shown-union : (i id k : ℕ) (d : Column) → i < length p.ids.rows → length p.variants.ids ≡ length p.columns → get_or (tags_of p) i None ≡ Some id → index_of p.variants.ids id ≡ Some k → tagged id (get_or (get_or p.columns k d).rows (place_at p.offsets i) null) ≡ get_or (union_column p).rows i null
  shown-union i id k d l many tag is =
      ap (tagged id) (sym (chosen-index p.variants.ids p.columns id (place_at p.offsets i) k d many is))
      ∙ ap (λ rows. tagged id (row_by_id p.variants.ids rows id)) (sym (candidates-row i l))
      ∙ ap (λ t. union_row p.variants.ids t (get_or (candidates_of p) i [])) (sym tag)
      ∙ sym (row-union p h i [])

  pub hidden-union : (i : ℕ) → get_or (tags_of p) i None ≡ None → null ≡ get_or (union_column p).rows i null
  hidden-union i tag =
      ap (λ t. union_row p.variants.ids t (get_or (candidates_of p) i [])) (sym tag) ∙ sym (row-union p h i [])

  -- its place is one of its variant's column
  pub place-union : (i id k : ℕ) (d : Column) → i < length p.ids.rows → length p.variants.ids ≡ length p.columns → get_or (tags_of p) i None ≡ Some id → index_of p.variants.ids id ≡ Some k → IsPlace p.offsets i (length (get_or p.columns k d).rows)
  place-union i id k d l many tag is = by p.offsets (long-union p h) (inside-union p h)
    where
      by : (offsets : Option RecordParts) → is_union_long offsets p.columns (length p.ids.rows) ≡ true → are_inside p offsets ≡ true → IsPlace offsets i (length (get_or p.columns k d).rows)
      by None long inside = omega (arith, l, long-get (length p.ids.rows) p.columns k d long (omega (arith, index-below p.variants.ids id k is, many)))
      by (Some o) long inside =
          let same : length o.records ≡ length p.ids.rows = grind (arith, nat_tests) in
          let z = get_or (integers_of o) i (pos 0) in
          let some : i < length (integers_of o) = omega (arith, l, same, length-map o.records (integer_by o.kind)) in
          let at : has_row p.variants.ids p.columns (get_or (tags_of p) i None) z ≡ true = inside-at p.variants.ids p.columns (tags_of p) (integers_of o) i inside (omega (arith, l, length-tags p h)) some in
          let here : has_place p.variants.ids p.columns id z ≡ true = subst (λ t. has_row p.variants.ids p.columns t z ≡ true) tag at in
          (omega (arith, l, same), sym (place-index p.variants.ids p.columns id z k d many is) ∙ here)

  -- which has it
  pub within-union : (i id k : ℕ) (d : Column) → i < length p.ids.rows → length p.variants.ids ≡ length p.columns → get_or (tags_of p) i None ≡ Some id → index_of p.variants.ids id ≡ Some k → place_at p.offsets i < length (get_or p.columns k d).rows
  within-union i id k d l many tag is = by p.offsets (place-union i id k d l many tag is)
    where
      by : (offsets : Option RecordParts) → IsPlace offsets i (length (get_or p.columns k d).rows) → place_at offsets i < length (get_or p.columns k d).rows
      by None place = place
      by (Some o) place =
          let some : i < length (integers_of o) = omega (arith, place.0, length-map o.records (integer_by o.kind)) in
          let below = is_position-below _ (get_or (integers_of o) i (pos 0)) place.1 in
          omega (arith, below, get_or-map position_of (integers_of o) i (pos 0) 0 some)

  -- each id that isn't null is a variant's
  pub found-union : (i id : ℕ) → i < length p.ids.rows → get_or (tags_of p) i None ≡ Some id → index_of p.variants.ids id ≡ None → false ≡ true
  found-union i id l tag none =
      let known : is_known p.variants.ids (get_or (tags_of p) i None) ≡ true = known-at p.variants.ids (tags_of p) i (known-union p h) (omega (arith, l, length-tags p h)) in
      known-index p.variants.ids id (subst (λ t. is_known p.variants.ids t ≡ true) tag known) none

-- what a proof about the length or about one row needs
pub ruleset rows_of_unions = (rows-union, shown-union, hidden-union, within-union, found-union, alike-union, id_type-union, places-union, long-union)

-- ---- the ids that a step leaves

pub tags-slice : (c a : Column) (s e : ℕ) → IsSlice c s e a → positions_of (numbers_of a) ≡ slice_range (positions_of (numbers_of c)) s e
tags-slice c a s e cut = ap positions_of (numbers_of-slice c s e a cut) ∙ map-slice_range (option_map position_of) (numbers_of c) s e

pub tags-filter : (c a : Column) (mask : List Bool) → IsCut c (items_where_true mask c.rows) a → positions_of (numbers_of a) ≡ items_where_true mask (positions_of (numbers_of c))
tags-filter c a mask cut = ap positions_of (numbers_of-filter c mask a cut) ∙ map-items_where_true (option_map position_of) mask (numbers_of c)

pub tags-take : (c a : Column) (picks : List (Option ℕ)) (n : Nullability) → IsTake c picks n a → positions_of (numbers_of a) ≡ at None (positions_of (numbers_of c)) picks
tags-take c a picks n step = ap positions_of (numbers_of-take c picks n a step) ∙ map-at (option_map position_of) None (numbers_of c) picks

-- ---- the rows at the places that a step leaves

pub places-slice : (cs : List Column) (places : List ℕ) (s e : ℕ) → rows_at cs (slice_range places s e) ≡ slice_range (rows_at cs places) s e
places-slice cs places s e = map-slice_range _ places s e

pub places-filter : (cs : List Column) (places : List ℕ) (mask : List Bool) → rows_at cs (items_where_true mask places) ≡ items_where_true mask (rows_at cs places)
places-filter cs places mask = map-items_where_true _ mask places

pub places-take : (cs : List Column) (places : List ℕ) (k : ℕ) (picks : List (Option ℕ)) → rows_at cs (at k places picks) ≡ at (map (λ (c : Column). get_or c.rows k null) cs) (rows_at cs places) picks
places-take cs places k picks = map-at (λ (j : ℕ). map (λ (c : Column). get_or c.rows j null) cs) k places picks

-- ---- steps

module _ (p q : UnionParts) (h : union_fault p ≡ None) (variants : q.variants ≡ p.variants) (form : offsets_kind q.offsets ≡ offsets_kind p.offsets) where
  -- of the rows that are left, the ids and the candidates
  pub rows-left : (tags : List (Option ℕ)) (rows : List (List RowValue)) → tags_of q ≡ tags → candidates_of q ≡ rows → union_rows q ≡ tagged_rows p.variants.ids tags rows
  rows-left tags rows t r =
      ap (λ (v : VariantTypes). tagged_rows v.ids (tags_of q) (candidates_of q)) variants
      ∙ ap₂ (tagged_rows p.variants.ids) t r

  as-many : length (tags_of p) ≡ length (candidates_of p)
  as-many = length-tags p h ∙ sym (length-candidates p h)

  kind-left : (t : TypeTree) → q.ids.dtype ≡ t → (union_column q).dtype ≡ record { kind = (union_column p).dtype.kind; nullability = t.nullability }
  kind-left t e =
      ap₂ (λ (v : VariantTypes) (u : TypeTree). let w : TypeTree = record { kind = (union_column (record p { variants = v })).dtype.kind; nullability = u.nullability } in w) variants e

  pub is_step-union : (rows : List RowValue) (t : TypeTree) → union_rows q ≡ rows → q.ids.dtype ≡ t → IsStep (union_column p) rows (record { kind = (union_column p).dtype.kind; nullability = t.nullability }) (union_column q)
  is_step-union rows t r e =
      record {
        rows = r;
        dtype = kind-left t e;
        layout = λ _. refl;
        unwrapped = λ h. h;
        direct = λ h. h;
        form = form;
      }

  pub is_slice-union : (s e : ℕ) → IsSlice p.ids s e q.ids → candidates_of q ≡ slice_range (candidates_of p) s e → (union_column q).depth ≤ (union_column p).depth → IsSlice (union_column p) s e (union_column q)
  is_slice-union s e ids rows deep =
      record {
        step = is_step-union _ p.ids.dtype (rows-left _ _ (tags-slice p.ids q.ids s e ids) rows ∙ sym (slice-tagged p.variants.ids (tags_of p) (candidates_of p) s e)) ids.step.dtype;
        plain = λ h. h;
        depth = deep;
      }

  pub is_filter-union : (mask : List Bool) → IsCut p.ids (items_where_true mask p.ids.rows) q.ids → candidates_of q ≡ items_where_true mask (candidates_of p) → (union_column q).depth ≤ (union_column p).depth → IsCut (union_column p) (items_where_true mask (union_column p).rows) (union_column q)
  is_filter-union mask ids rows deep =
      record {
        step = is_step-union _ p.ids.dtype (rows-left _ _ (tags-filter p.ids q.ids mask ids) rows ∙ sym (filter-tagged p.variants.ids mask (tags_of p) (candidates_of p))) ids.step.dtype;
        plain = λ h. h;
        depth = deep;
      }

  -- whatever row is there at a null pick
  pub is_take-union : (missing : List RowValue) (picks : List (Option ℕ)) (n : Nullability) → IsTake p.ids picks n q.ids → candidates_of q ≡ at missing (candidates_of p) picks → IsTake (union_column p) picks n (union_column q)
  is_take-union missing picks n ids rows =
      is_step-union _ (also_nullable p.ids.dtype n) (rows-left _ _ (tags-take p.ids q.ids picks n ids) rows ∙ sym (at-tagged p.variants.ids (tags_of p) (candidates_of p) missing picks as-many)) ids.dtype
