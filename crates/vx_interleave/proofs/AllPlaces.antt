-- The places of all rows of columns.
use Rattle.std.proofs.Common.{append_assoc, ◌≡◌, ℕ, zero, suc, ◌+◌, ◌<◌, ◌≤◌, List, [], ◌∷◌, ◌++◌, length, map, take, get_or, Option, Some, refl, sym, ap, ap₂, ◌∙◌, subst, arith}
use Rattle.std.specs.Prelude.{slice_get}
use Rattle.std.specs.List.{All, range_with_len}
use Rattle.std.proofs.lemmas.List.{append-nil, map-append, take_all, take_more}
use Rattle.std.proofs.lemmas.List.Concat.{flat_map-append}
use Rattle.std.proofs.lemmas.List.Elements.{All-append, All-cons, All-nil}
use Rattle.std.proofs.lemmas.List.FromFn.{fill_by_all, map-range_with_len_more}
use Rattle.std.proofs.lemmas.Simd.{map-map}
use Rattle.vx_types.specs.RowValue.{RowValue, null}
use Rattle.vx_types.specs.TypeTree.{TypeTree}
use Rattle.vx_model.specs.Column.{Column}
use Rattle.vx_interleave.specs.Places.{interleaved, joined, list_of, placed, places_of}
use Rattle.vx_interleave.specs.Sources.{AreAllPlaces, ArePlacesFor, IsPlaceFor, rows_of}
use Rattle.vx_interleave.specs.declared.place.Place.{Place}

place_at : ℕ → ℕ → Option Place
place_at column row = Some (record { column = column; row = row })

-- the rows at the places of one column are its rows
rows_at : (lists : List (List RowValue)) (k n : ℕ) → n ≡ length (list_of lists k) → interleaved null lists (places_of k n) ≡ list_of lists k
rows_at lists k n count =
    map-map (placed null lists) (λ (i : ℕ). Some (record { column = k; row = i })) (range_with_len 0 n)
    ∙ sym (fill_by_all (λ (i : ℕ). get_or (list_of lists k) i null) (list_of lists k) n null (sym count) (λ i h. refl))

each_place : (t : TypeTree) (lists : List (List RowValue)) (k a n : ℕ) → k < length lists → a + n ≤ length (list_of lists k) → All (IsPlaceFor t lists) (map (λ (i : ℕ). Some (record { column = k; row = i })) (range_with_len a n))
each_place t lists k a zero in_k h = All-nil (IsPlaceFor t lists)
each_place t lists k a (suc n) in_k h =
    All-cons (IsPlaceFor t lists) (Some (record { column = k; row = a })) (map (λ (i : ℕ). Some (record { column = k; row = i })) (range_with_len (a + 1) n)) (in_k, omega arith)
    (each_place t lists k (a + 1) n in_k (omega arith))

pub no_places : (lists : List (List RowValue)) → AreAllPlaces (take 0 lists) lists []
no_places lists = record { rows = refl; places = λ t. All-nil (IsPlaceFor t lists) }

-- the places of one column more
pub more_places : (lists : List (List RowValue)) (order order' : List (Option Place)) (k n : ℕ) → AreAllPlaces (take k lists) lists order → k < length lists → n ≡ length (list_of lists k) → order' ≡ order ++ places_of k n → AreAllPlaces (take (k + 1) lists) lists order'
more_places lists order order' k n all h count is =
    record {
      rows = ap (interleaved null lists) is
          ∙ map-append (placed null lists) order (places_of k n)
          ∙ ap₂ (λ x y. x ++ y) all.rows (rows_at lists k n count)
          ∙ ap (λ (l : List RowValue). joined (take k lists) ++ l) (sym (append-nil (list_of lists k)))
          ∙ sym (flat_map-append (λ (l : List RowValue). l) (take k lists) (list_of lists k ∷ []))
          ∙ sym (ap joined (take_more lists k [] h));
      places = λ t. subst (ArePlacesFor t lists) (sym is) (All-append (IsPlaceFor t lists) order (places_of k n) (all.places t) (each_place t lists k 0 n h (omega (arith, count))));
    }

-- one place more of a column
pub one_place : (before now new : List (Option Place)) (k n : ℕ) → now ≡ before ++ places_of k n → new ≡ now ++ Some (record { column = k; row = n }) ∷ [] → new ≡ before ++ places_of k (n + 1)
one_place before now new k n h is =
    is ∙ ap (λ l. l ++ Some (record { column = k; row = n }) ∷ []) h
    ∙ append_assoc before (places_of k n) (Some (record { column = k; row = n }) ∷ [])
    ∙ ap (λ l. before ++ l) (sym (map-range_with_len_more (λ (i : ℕ). Some (record { column = k; row = i })) 0 n n (omega arith)))

-- ---- whether places are those of rows

module _ (t : TypeTree) (lists : List (List RowValue)) (order : List (Option Place)) where
  -- the first of them, and one more
  pub first_more : (i : ℕ) (d : Option Place) → i < length order → All (IsPlaceFor t lists) (take i order) → IsPlaceFor t lists (get_or order i d) → All (IsPlaceFor t lists) (take (i + 1) order)
  first_more i d h before here =
      subst (All (IsPlaceFor t lists)) (sym (take_more order i d h))
      (All-append (IsPlaceFor t lists) (take i order) (get_or order i d ∷ []) before (All-cons (IsPlaceFor t lists) (get_or order i d) [] here (All-nil (IsPlaceFor t lists))))

  pub all_taken : (i : ℕ) → length order ≤ i → All (IsPlaceFor t lists) (take i order) → All (IsPlaceFor t lists) order
  all_taken i h all = subst (All (IsPlaceFor t lists)) (take_all i order h) all

-- ---- the rows of one column

pub column_below : (cs : List Column) (k : ℕ) (c : Column) → slice_get cs k ≡ Some c → k < length (rows_of cs)
column_below [] k c h = cc
column_below (d ∷ cs) zero c h = omega arith
column_below (d ∷ cs) (suc k) c h = omega (arith, column_below cs k c h)

pub column_rows : (cs : List Column) (k : ℕ) (c : Column) → slice_get cs k ≡ Some c → c.rows ≡ list_of (rows_of cs) k
column_rows [] k c h = cc
column_rows (d ∷ cs) zero c h = let e : d ≡ c = cc in ap (λ (x : Column). x.rows) (sym e)
column_rows (d ∷ cs) (suc k) c h = column_rows cs k c h
