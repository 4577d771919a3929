-- Unions whose variants are gathered.
use Rattle.std.proofs.Common.{◌≡◌, ℕ, ◌+◌, ◌<◌, Bool, true, false, List, [], ◌∷◌, ◌++◌, length, map, get_or, Option, None, Some, refl, sym, ap, ap₂, subst, ◌∙◌, arith, append_assoc}
use Rattle.std.specs.Prelude.{◌==◌, ◌||◌, cond, pos, if◌then◌else◌}
use Rattle.std.specs.List.{count_by, filter, list_all, list_any}
use Rattle.std.specs.Int.{w8, from_le_bytes}
use Rattle.std.specs.Option.{option_map}
use Rattle.std.proofs.lemmas.List.{length-append, length-map, map-append}
use Rattle.std.proofs.lemmas.List.Elements.{filter-append}
use Rattle.std.proofs.lemmas.List.Sums.{length-filter, sum_by-cons}
use Rattle.vx_types.specs.RowValue.{RowValue, null, bit, bytes, list, fields, tagged}
use Rattle.vx_types.specs.TypeTree.{TypeTree, primitive_kind}
use Rattle.vx_types.specs.declared.ptype.PType.TheVariants.{U8}
use Rattle.vx_positions.specs.Positions.{is_position, position_of, positions_of}
use Rattle.vx_model.specs.Column.{Column}
use Rattle.vx_model.specs.Numbers.{number_in}
use Rattle.vx_model.specs.Union.{has_place, have_rows, is_known, row_by_id, rows_at, tagged_rows}
use Rattle.vx_offsets.proofs.Cuts.{same}
use Rattle.vx_interleave.specs.Tags.{id_row, is_tag, place_after, places_after, row_in, rows_under, tag_in}
use Rattle.vx_interleave.specs.Unions.{AreVariants}
use Rattle.std.proofs.lemmas.Bool.{eqb-true}
use Rattle.vx_offsets.proofs.Ascending.{is_position-pos}

-- ---- the rows of one variant

pub under-append : (id : ℕ) (xs ys : List RowValue) → rows_under id (xs ++ ys) ≡ rows_under id xs ++ rows_under id ys
under-append id xs ys =
    ap (map row_in) (filter-append (λ (x : RowValue). is_tag id (tag_in x)) xs ys)
    ∙ map-append row_in (filter (λ (x : RowValue). is_tag id (tag_in x)) xs) (filter (λ (x : RowValue). is_tag id (tag_in x)) ys)

under-here : (id : ℕ) (x : RowValue) (rows : List RowValue) → rows_under id (tagged id x ∷ rows) ≡ x ∷ rows_under id rows
under-here id x rows = rw (same id) refl

count-under : (id : ℕ) (rows : List RowValue) → count_by (λ (x : RowValue). is_tag id (tag_in x)) rows ≡ count_by (is_tag id) (map tag_in rows)
count-under id [] = refl
count-under id (x ∷ rows) =
    sum_by-cons (λ (y : RowValue). cond (is_tag id (tag_in y)) 1 0) x rows
    ∙ ap (λ n. cond (is_tag id (tag_in x)) 1 0 + n) (count-under id rows)
    ∙ sym (sum_by-cons (λ (t : Option ℕ). cond (is_tag id t) 1 0) (tag_in x) (map tag_in rows))

pub length-under : (id : ℕ) (rows : List RowValue) → length (rows_under id rows) ≡ count_by (is_tag id) (map tag_in rows)
length-under id rows =
    length-map (filter (λ (x : RowValue). is_tag id (tag_in x)) rows) row_in
    ∙ length-filter (λ (x : RowValue). is_tag id (tag_in x)) rows ∙ count-under id rows

at-behind : {X : Type 0} (xs : List X) (y : X) (ys : List X) (d : X) → get_or (xs ++ y ∷ ys) (length xs) d ≡ y
at-behind [] y ys d = refl
at-behind (x ∷ xs) y ys d = at-behind xs y ys d

split : (id : ℕ) (x : RowValue) (front back : List RowValue) → rows_under id (front ++ tagged id x ∷ back) ≡ rows_under id front ++ x ∷ rows_under id back
split id x front back = under-append id front (tagged id x ∷ back) ∙ ap (λ l. rows_under id front ++ l) (under-here id x back)

-- a row is at its place among those of its variant
found : (id : ℕ) (x : RowValue) (front back : List RowValue) → get_or (rows_under id (front ++ tagged id x ∷ back)) (place_after (map tag_in front) (Some id)) null ≡ x
found id x front back =
    ap₂ (λ (l : List RowValue) n. get_or l n null) (split id x front back) (sym (length-under id front))
    ∙ at-behind (rows_under id front) x (rows_under id back) null

found-below : (id : ℕ) (x : RowValue) (front back : List RowValue) → place_after (map tag_in front) (Some id) < length (rows_under id (front ++ tagged id x ∷ back))
found-below id x front back =
    omega (arith, ap length (split id x front back), length-under id front, length-append (rows_under id front) (x ∷ rows_under id back))

-- ---- the variant of an id

module _ (rows : List RowValue) (id place : ℕ) where
  by-id : (vs : List ℕ) (ts : List TypeTree) (cs : List Column) → AreVariants vs ts rows cs → list_any (λ v. v == id) vs ≡ true → row_by_id vs (map (λ (c : Column). get_or c.rows place null) cs) id ≡ get_or (rows_under id rows) place null
  by-id [] ts cs h k = cc
  by-id (v ∷ vs) [] cs h k = absurd h
  by-id (v ∷ vs) (t ∷ ts) [] h k = absurd h
  by-id (v ∷ vs) (t ∷ ts) (c ∷ cs) h k = by (v == id) refl k (λ known. by-id vs ts cs h.1 known)
    where
      by : (b : Bool) → (v == id) ≡ b → (b || list_any (λ v. v == id) vs) ≡ true → (list_any (λ v. v == id) vs ≡ true → row_by_id vs (map (λ (c : Column). get_or c.rows place null) cs) id ≡ get_or (rows_under id rows) place null) → (if b then get_or c.rows place null else row_by_id vs (map (λ (c : Column). get_or c.rows place null) cs) id) ≡ get_or (rows_under id rows) place null
      by true e k others = ap (λ l. get_or l place null) (h.0.1 ∙ ap (λ n. rows_under n rows) (eqb-true v id e))
      by false e k others = others k

  place-by-id : (vs : List ℕ) (ts : List TypeTree) (cs : List Column) → AreVariants vs ts rows cs → place < length (rows_under id rows) → has_place vs cs id (pos place) ≡ true
  place-by-id [] ts cs h k = refl
  place-by-id (v ∷ vs) [] cs h k = absurd h
  place-by-id (v ∷ vs) (t ∷ ts) [] h k = absurd h
  place-by-id (v ∷ vs) (t ∷ ts) (c ∷ cs) h k = by (v == id) refl (place-by-id vs ts cs h.1 k)
    where
      by : (b : Bool) → (v == id) ≡ b → has_place vs cs id (pos place) ≡ true → (if b then is_position (length c.rows) (pos place) else has_place vs cs id (pos place)) ≡ true
      by true e others =
          let many : length c.rows ≡ length (rows_under id rows) = ap length (h.0.1 ∙ ap (λ n. rows_under n rows) (eqb-true v id e)) in
          is_position-pos (length c.rows) place (omega (arith, many, k))
      by false e others = others

-- ---- all rows

-- a row is a null, or one of a known variant
abbrev pub IsRowUnder : List ℕ → RowValue → Type 0
IsRowUnder vs null = Unit {0}
IsRowUnder vs (tagged id x) = list_any (λ v. v == id) vs ≡ true
IsRowUnder vs x = ⊥

abbrev pub AreRowsUnder : List ℕ → List RowValue → Type 0
AreRowsUnder vs [] = Unit {0}
AreRowsUnder vs (x ∷ rows) = IsRowUnder vs x × AreRowsUnder vs rows

module _ (vs : List ℕ) (ts : List TypeTree) (cs : List Column) where
  one-behind : (front : List RowValue) (x : RowValue) (back : List RowValue) → AreVariants vs ts (front ++ x ∷ back) cs → AreVariants vs ts ((front ++ x ∷ []) ++ back) cs
  one-behind front x back h = subst (λ (rows : List RowValue). AreVariants vs ts rows cs) (sym (append_assoc front (x ∷ []) back)) h

  -- the places of the rows behind one more
  after-one : (front : List RowValue) (x : RowValue) (back : List RowValue) → places_after (map tag_in (front ++ x ∷ [])) (map tag_in back) ≡ places_after (map tag_in front ++ tag_in x ∷ []) (map tag_in back)
  after-one front x back = ap (λ l. places_after l (map tag_in back)) (map-append tag_in front (x ∷ []))

  pub rows-made : (front back : List RowValue) → AreVariants vs ts (front ++ back) cs → AreRowsUnder vs back → tagged_rows vs (map tag_in back) (rows_at cs (places_after (map tag_in front) (map tag_in back))) ≡ back
  rows-made front [] h under = refl
  rows-made front (null ∷ back) h under =
      ap (λ l. null ∷ l)
      (ap (λ ps. tagged_rows vs (map tag_in back) (rows_at cs ps)) (sym (after-one front null back))
      ∙ rows-made (front ++ null ∷ []) back (one-behind front null back h) under.1)
  rows-made front (tagged id x ∷ back) h under =
      let place = place_after (map tag_in front) (Some id) in
      let here : row_by_id vs (map (λ (c : Column). get_or c.rows place null) cs) id ≡ x =
      by-id (front ++ tagged id x ∷ back) id place vs ts cs h under.0 ∙ found id x front back in
      ap₂ (λ y l. tagged id y ∷ l) here
      (ap (λ ps. tagged_rows vs (map tag_in back) (rows_at cs ps)) (sym (after-one front (tagged id x) back))
      ∙ rows-made (front ++ tagged id x ∷ []) back (one-behind front (tagged id x) back h) under.1)
  rows-made front (bit b ∷ back) h under = absurd under.0
  rows-made front (bytes b ∷ back) h under = absurd under.0
  rows-made front (list l ∷ back) h under = absurd under.0
  rows-made front (fields l ∷ back) h under = absurd under.0

  pub places-made : (front back : List RowValue) → AreVariants vs ts (front ++ back) cs → AreRowsUnder vs back → have_rows vs cs (map tag_in back) (map pos (places_after (map tag_in front) (map tag_in back))) ≡ true
  places-made front [] h under = refl
  places-made front (null ∷ back) h under =
      ap (λ ps. have_rows vs cs (map tag_in back) (map pos ps)) (sym (after-one front null back))
      ∙ places-made (front ++ null ∷ []) back (one-behind front null back h) under.1
  places-made front (tagged id x ∷ back) h under =
      let here : has_place vs cs id (pos (place_after (map tag_in front) (Some id))) ≡ true =
      place-by-id (front ++ tagged id x ∷ back) id (place_after (map tag_in front) (Some id)) vs ts cs h (found-below id x front back) in
      let rest : have_rows vs cs (map tag_in back) (map pos (places_after (map tag_in front ++ Some id ∷ []) (map tag_in back))) ≡ true =
      ap (λ ps. have_rows vs cs (map tag_in back) (map pos ps)) (sym (after-one front (tagged id x) back))
      ∙ places-made (front ++ tagged id x ∷ []) back (one-behind front (tagged id x) back h) under.1 in
      rw (here, rest) refl
  places-made front (bit b ∷ back) h under = absurd under.0
  places-made front (bytes b ∷ back) h under = absurd under.0
  places-made front (list l ∷ back) h under = absurd under.0
  places-made front (fields l ∷ back) h under = absurd under.0

pub known-made : (vs : List ℕ) (rows : List RowValue) → AreRowsUnder vs rows → list_all (is_known vs) (map tag_in rows) ≡ true
known-made vs [] under = refl
known-made vs (null ∷ rows) under = known-made vs rows under.1
known-made vs (tagged id x ∷ rows) under = rw (under.0, known-made vs rows under.1) refl
known-made vs (bit b ∷ rows) under = absurd under.0
known-made vs (bytes b ∷ rows) under = absurd under.0
known-made vs (list l ∷ rows) under = absurd under.0
known-made vs (fields l ∷ rows) under = absurd under.0

-- ---- ids

tag-id : (t : Option ℕ) → option_map position_of (number_in (primitive_kind U8) (id_row t)) ≡ t
tag-id (Some id) = let e : from_le_bytes w8 (id ∷ []) ≡ id = omega arith in ap Some e
tag-id None = refl

pub tags-made : (tags : List (Option ℕ)) → positions_of (map (number_in (primitive_kind U8)) (map id_row tags)) ≡ tags
tags-made [] = refl
tags-made (t ∷ tags) = ap₂ ◌∷◌ (tag-id t) (tags-made tags)
