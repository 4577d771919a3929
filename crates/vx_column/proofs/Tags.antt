-- The ids of a union's rows, and the variants that they name.
use Rattle.std.proofs.Common.{◌≡◌, ℕ, ℤ, pos, suc, ◌+◌, ◌<◌, ◌≤◌, Bool, true, false, List, [], ◌∷◌, drop, map, length, get_or, Option, None, Some, refl, sym, subst, ap, ◌∙◌, arith}
use Rattle.std.specs.Prelude.{◌==◌, ◌&&◌, ◌||◌, is_some, if◌then◌else◌}
use Rattle.std.specs.List.{list_all, list_any}
use Rattle.std.specs.Option.{option_map}
use Rattle.std.proofs.lemmas.List.{at_drop_all, at_drop_more, get_or-map, length-map}
use Rattle.vx_types.specs.SameLaws.{kind_decides}
use Rattle.std.specs.Int.{w8, from_le_bytes}
use Rattle.vx_types.specs.RowValue.{RowValue, null, bytes}
use Rattle.vx_types.specs.TypeTree.{TypeTree, is_int_type, primitive_kind}
use Rattle.vx_types.specs.declared.ptype.PType.TheVariants.{U8}
use Rattle.vx_positions.specs.Positions.{is_position, position_of, positions_of}
use Rattle.vx_model.specs.Column.{Column}
use Rattle.vx_model.specs.Numbers.{integers_of, number_in, numbers_of}
use Rattle.vx_model.specs.Records.{RecordParts}
use Rattle.vx_types.specs.FieldTypes.{VariantTypes}
use Rattle.vx_types.specs.Same.{are_same_types}
use Rattle.vx_types.specs.TypeTree.{types_of}
use Rattle.vx_types.specs.Variants.{variants_fault, index_of, is_id_type}
use Rattle.vx_model.specs.Columns.{types_in}
use Rattle.vx_model.specs.Union.{UnionParts, has_place, has_row, have_rows, is_known, union_fault}
use Rattle.vx_model.proofs.StructSteps.{same_trees}
use Rattle.vx_column.specs.Cell.{type_by_id}
use Rattle.vx_column.proofs.VariantCounts.{many-variants}
use Rattle.vx_column.proofs.Naturals.{integers_long}
use Rattle.vx_model.proofs.UnionSteps.{alike-union, index-below, place-index, same-many}

-- no variant of this id has a place, and any number is one
pub place-none : (ids : List ℕ) (cs : List Column) (id : ℕ) (z : ℤ) → index_of ids id ≡ None → has_place ids cs id z ≡ true
place-none [] cs id z e = refl
place-none (v ∷ ids) [] id z e = refl
place-none (v ∷ ids) (c ∷ cs) id z e = by (v == id) (index_of ids id) (λ g. place-none ids cs id z g) e
  where
    by : (b : Bool) (o : Option ℕ) → (o ≡ None → has_place ids cs id z ≡ true) → (if b then Some 0 else option_map suc o) ≡ None → (if b then is_position (length c.rows) z else has_place ids cs id z) ≡ true
    by true o f e = absurd cc
    by false None f e = f refl
    by false (Some j) f e = absurd cc

pub known-some : (ids : List ℕ) (id : ℕ) → list_any (λ v. v == id) ids ≡ is_some (index_of ids id)
known-some [] id = refl
known-some (v ∷ ids) id = by (v == id) (index_of ids id) (known-some ids id)
  where
    by : (b : Bool) (o : Option ℕ) → list_any (λ v. v == id) ids ≡ is_some o → (b || list_any (λ v. v == id) ids) ≡ is_some (if b then Some 0 else option_map suc o)
    by true o h = refl
    by false None h = h
    by false (Some j) h = h

-- ---- rows one by one

pub long-tags : (c : Column) → length (positions_of (numbers_of c)) ≡ length c.rows
long-tags c = length-map (numbers_of c) (option_map position_of) ∙ length-map c.rows (number_in c.dtype.kind)

pub rows-more : (ids : List ℕ) (cs : List Column) (tags : List (Option ℕ)) (zs : List ℤ) (i : ℕ) (t : Option ℕ) (z : ℤ) → i < length tags → i < length zs → have_rows ids cs (drop i tags) (drop i zs) ≡ (has_row ids cs (get_or tags i t) (get_or zs i z) && have_rows ids cs (drop (i + 1) tags) (drop (i + 1) zs))
rows-more ids cs tags zs i t z h l =
    at_drop_more (λ k. have_rows ids cs k (drop i zs)) tags i t h
    ∙ at_drop_more (λ k. have_rows ids cs (get_or tags i t ∷ drop (i + 1) tags) k) zs i z l

-- the rows from i on, where row i is known to be sound or not
pub rows-by : {b d : Bool} {t : Option ℕ} (ids : List ℕ) (cs : List Column) (c : Column) (o : RecordParts) (i : ℕ) → i < length c.rows → length o.records ≡ length c.rows → t ≡ get_or (positions_of (numbers_of c)) i None → b ≡ has_row ids cs t (get_or (integers_of o) i (pos 0)) → b ≡ d → have_rows ids cs (drop i (positions_of (numbers_of c))) (drop i (integers_of o)) ≡ (d && have_rows ids cs (drop (i + 1) (positions_of (numbers_of c))) (drop (i + 1) (integers_of o)))
rows-by ids cs c o i h long told judged is =
    let tags = positions_of (numbers_of c) in let zs = integers_of o in
    rows-more ids cs tags zs i None (pos 0) (omega (arith, h, long-tags c)) (omega (arith, h, integers_long o, long))
    ∙ ap (λ x. x && have_rows ids cs (drop (i + 1) tags) (drop (i + 1) zs))
    (ap (λ u. has_row ids cs u (get_or zs i (pos 0))) (sym told) ∙ sym judged ∙ is)

pub rows-end : (ids : List ℕ) (cs : List Column) (tags : List (Option ℕ)) (zs : List ℤ) (i : ℕ) → length tags ≤ i → have_rows ids cs (drop i tags) (drop i zs) ≡ true
rows-end ids cs tags zs i h = at_drop_all (λ k. have_rows ids cs k (drop i zs)) tags i h

-- ---- an id

pub known-more : (ids : List ℕ) (tags : List (Option ℕ)) (i : ℕ) (t : Option ℕ) → i < length tags → list_all (is_known ids) (drop i tags) ≡ (is_known ids (get_or tags i t) && list_all (is_known ids) (drop (i + 1) tags))
known-more ids tags i t h = at_drop_more (list_all (is_known ids)) tags i t h

pub known-end : (ids : List ℕ) (tags : List (Option ℕ)) (i : ℕ) → length tags ≤ i → list_all (is_known ids) (drop i tags) ≡ true
known-end ids tags i h = at_drop_all (list_all (is_known ids)) tags i h

kind-ids : (t : TypeTree) → is_id_type t ≡ true → t.kind ≡ primitive_kind U8
kind-ids t h = (kind_decides t.kind (primitive_kind U8)).0 h

tag-row : (c : Column) (i : ℕ) (x : RowValue) → is_id_type c.dtype ≡ true → i < length c.rows → x ≡ get_or c.rows i null → option_map position_of (number_in (primitive_kind U8) x) ≡ get_or (positions_of (numbers_of c)) i None
tag-row c i x ids h e =
    ap (λ r. option_map position_of (number_in (primitive_kind U8) r)) e
    ∙ ap (λ k. option_map position_of (number_in k (get_or c.rows i null))) (sym (kind-ids c.dtype ids))
    ∙ sym (get_or-map (λ r. option_map position_of (number_in c.dtype.kind r)) c.rows i null None h)
    ∙ ap (λ l. get_or l i None) (sym (map-map c.rows))
  where
    map-map : (rows : List RowValue) → positions_of (map (number_in c.dtype.kind) rows) ≡ map (λ r. option_map position_of (number_in c.dtype.kind r)) rows
    map-map [] = refl
    map-map (r ∷ rows) = ap (λ l. option_map position_of (number_in c.dtype.kind r) ∷ l) (map-map rows)

pub tag-bytes : (c : Column) (i : ℕ) (b : List ℕ) → is_id_type c.dtype ≡ true → i < length c.rows → bytes b ≡ get_or c.rows i null → Some (get_or b 0 0) ≡ get_or (positions_of (numbers_of c)) i None
tag-bytes c i b ids h e =
    let first : get_or b 0 0 ≡ from_le_bytes w8 b = omega arith in
    ap Some first ∙ tag-row c i (bytes b) ids h e

pub tag-null : (c : Column) (i : ℕ) → is_id_type c.dtype ≡ true → i < length c.rows → null ≡ get_or c.rows i null → None ≡ get_or (positions_of (numbers_of c)) i None
tag-null c i ids h e = tag-row c i null ids h e

pub int-ids : (t : TypeTree) → is_id_type t ≡ true → is_int_type t ≡ true
int-ids t h = ap (λ k. let u : TypeTree = record { kind = k; nullability = t.nullability } in is_int_type u) (kind-ids t h)

-- ---- as many columns as ids

pub many-alike : (v : VariantTypes) (cs : List Column) → variants_fault v ≡ None → are_same_types (types_in cs) v.types ≡ true → length v.ids ≡ length cs
many-alike v cs h same = many-variants v h ∙ sym (same-many cs v.types same)

pub many-union : (p : UnionParts) → union_fault p ≡ None → variants_fault p.variants ≡ None → length p.variants.ids ≡ length p.columns
many-union p h valid = many-alike p.variants p.columns valid (alike-union p h)

-- the type of the variant in place k
type-index : (vs : List ℕ) (cs : List Column) (ts : List TypeTree) (id k : ℕ) (d : Column) → length vs ≡ length cs → types_of (types_in cs) ≡ types_of ts → index_of vs id ≡ Some k → type_by_id vs (types_of ts) id ≡ Some (get_or cs k d).dtype
type-index vs cs ts id k d many same is = ap (λ l. type_by_id vs l id) (sym same) ∙ go vs cs k many is
  where
    go : (vs : List ℕ) (cs : List Column) (k : ℕ) → length vs ≡ length cs → index_of vs id ≡ Some k → type_by_id vs (types_of (types_in cs)) id ≡ Some (get_or cs k d).dtype
    go [] cs k many e = absurd cc
    go (v ∷ vs) [] k many e = absurd (omega arith)
    go (v ∷ vs) (c ∷ cs) k many e = by (v == id) (index_of vs id) (λ j is. go vs cs j (omega arith) is) e
      where
        by : (b : Bool) (o : Option ℕ) → ((j : ℕ) → o ≡ Some j → type_by_id vs (types_of (types_in cs)) id ≡ Some (get_or cs j d).dtype) → (if b then Some 0 else option_map suc o) ≡ Some k → (if b then Some c.dtype else type_by_id vs (types_of (types_in cs)) id) ≡ Some (get_or (c ∷ cs) k d).dtype
        by true o f e = let same : 0 ≡ k = cc in subst (λ n. Some c.dtype ≡ Some (get_or (c ∷ cs) n d).dtype) same refl
        by false None f e = absurd cc
        by false (Some j) f e = let same : suc j ≡ k = cc in subst (λ n. type_by_id vs (types_of (types_in cs)) id ≡ Some (get_or (c ∷ cs) n d).dtype) same (f j refl)

pub type-variant : (p : UnionParts) (id k : ℕ) (d : Column) → union_fault p ≡ None → length p.variants.ids ≡ length p.columns → index_of p.variants.ids id ≡ Some k → type_by_id p.variants.ids (types_of p.variants.types) id ≡ Some (get_or p.columns k d).dtype
type-variant p id k d h many is =
    type-index p.variants.ids p.columns p.variants.types id k d many (same_trees _ _ (alike-union p h)) is

pub ruleset places = (place-none, place-index, index-below, known-some, rows-more, rows-end, known-more, known-end, long-tags)

pub ruleset tags = (tag-bytes, tag-null, int-ids)
