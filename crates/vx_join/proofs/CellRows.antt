-- Keys of cells against rows of values.
use Rattle.std.proofs.Common.{◌≡◌, ℕ, zero, suc, ◌+◌, ◌-◌, ◌*◌, ◌<◌, Bool, true, false, cond, ◌&&◌, ◌||◌, List, [], ◌∷◌, ◌++◌, length, map, take, drop, None, Some, refl, sym, ◌∙◌, ap, arith, append_assoc, get_or}
use Rattle.std.specs.Prelude.{slice_index_or}
use Rattle.std.proofs.Common.{Ordering}
use Rattle.std.specs.Ordering.{is_eq, eq_by_cmp}
use Rattle.std.specs.Cmp.Lexicographic.{slice_cmp, pointwise, lists_ties, texts_ties}
use Rattle.std.specs.List.{list_any, flat_map}
use Rattle.std.proofs.lemmas.List.{drop_more, map-append, length-append, take-append-le, drop-append-le, take_all, drop_all, length-map}
use Rattle.vx_join.specs.declared.cells.KeyCell.{KeyCell}
use Rattle.vx_join.specs.declared.cells.KeyCell.TheVariants as cells
use Rattle.vx_model.specs.Column.{Column}
use Rattle.vx_join.specs.contracts.cells.KeyCellOrd.TheImpl as order
use Rattle.vx_join.specs.Chains.{keys_match}
use Rattle.vx_join.specs.Pairs.{positions_from, pairs_from, pairs}
use Rattle.vx_types.specs.RowValue.{RowValue, null}
use Rattle.vx_join.specs.Keys.{same_value, rows_match, row_at, rows_from}
use Rattle.vx_join.specs.Cells.{rows_of, value_of, is_null_cell, key_cells, pieces}

abbrev pub cell_cmp : KeyCell → KeyCell → Ordering
cell_cmp = order.ghosts.cmp

-- a cell that isn't null compares as equal exactly to a cell of the same value
cell_same : (x y : KeyCell) → is_null_cell x ≡ false → is_eq (cell_cmp x y) ≡ same_value (value_of x) (value_of y)
cell_same cells.Null y h = absurd (cc)
cell_same (cells.Bit true) cells.Null h = refl
cell_same (cells.Bit true) (cells.Bit true) h = refl
cell_same (cells.Bit true) (cells.Bit false) h = refl
cell_same (cells.Bit true) (cells.Bytes b) h = refl
cell_same (cells.Bit false) cells.Null h = refl
cell_same (cells.Bit false) (cells.Bit true) h = refl
cell_same (cells.Bit false) (cells.Bit false) h = refl
cell_same (cells.Bit false) (cells.Bytes b) h = refl
cell_same (cells.Bytes a) cells.Null h = refl
cell_same (cells.Bytes a) (cells.Bit b) h = refl
cell_same (cells.Bytes a) (cells.Bytes b) h = sym (texts_ties a.now b.now)

row_same : (xs ys : List KeyCell) → list_any is_null_cell xs ≡ false → pointwise (eq_by_cmp cell_cmp) xs ys ≡ rows_match (map value_of xs) (map value_of ys)
row_same [] [] h = refl
row_same [] (y ∷ ys) h = refl
row_same (x ∷ xs) [] h = refl
row_same (x ∷ xs) (y ∷ ys) h = by (is_null_cell x) refl h (row_same xs ys)
  where
    by : (b : Bool) → is_null_cell x ≡ b → (b || list_any is_null_cell xs) ≡ false
        → (list_any is_null_cell xs ≡ false → pointwise (eq_by_cmp cell_cmp) xs ys ≡ rows_match (map value_of xs) (map value_of ys))
        → (eq_by_cmp cell_cmp x y && pointwise (eq_by_cmp cell_cmp) xs ys) ≡ (same_value (value_of x) (value_of y) && rows_match (map value_of xs) (map value_of ys))
    by true e h rest = absurd (cc)
    by false e h rest = λ i. cell_same x y e i && rest h i

-- a row with a null matches none
and_false : (b : Bool) → (b && false) ≡ false
and_false true = refl
and_false false = refl

null_left : (xs ys : List KeyCell) → list_any is_null_cell xs ≡ true → rows_match (map value_of xs) (map value_of ys) ≡ false
null_left [] ys h = absurd (cc)
null_left (x ∷ xs) [] h = refl
null_left (cells.Null ∷ xs) (y ∷ ys) h = refl
null_left (cells.Bit b ∷ xs) (y ∷ ys) h = ap (λ m. same_value (value_of (cells.Bit b)) (value_of y) && m) (null_left xs ys h) ∙ and_false _
null_left (cells.Bytes b ∷ xs) (y ∷ ys) h = ap (λ m. same_value (value_of (cells.Bytes b)) (value_of y) && m) (null_left xs ys h) ∙ and_false _

null_value : (x : KeyCell) → same_value (value_of x) (value_of cells.Null) ≡ false
null_value cells.Null = refl
null_value (cells.Bit b) = refl
null_value (cells.Bytes b) = refl

null_right : (xs ys : List KeyCell) → list_any is_null_cell ys ≡ true → rows_match (map value_of xs) (map value_of ys) ≡ false
null_right xs [] h = absurd (cc)
null_right [] (y ∷ ys) h = refl
null_right (x ∷ xs) (cells.Null ∷ ys) h = ap (λ m. m && rows_match (map value_of xs) (map value_of ys)) (null_value x)
null_right (x ∷ xs) (cells.Bit b ∷ ys) h = ap (λ m. same_value (value_of x) (value_of (cells.Bit b)) && m) (null_right xs ys h) ∙ and_false _
null_right (x ∷ xs) (cells.Bytes b ∷ ys) h = ap (λ m. same_value (value_of x) (value_of (cells.Bytes b)) && m) (null_right xs ys h) ∙ and_false _

-- keys match exactly where the rows do
pub cells_match : (xs ys : List KeyCell) → keys_match (eq_by_cmp (slice_cmp cell_cmp)) (key_cells xs) (key_cells ys) ≡ rows_match (map value_of xs) (map value_of ys)
cells_match xs ys = by (list_any is_null_cell xs) (list_any is_null_cell ys) refl refl
  where
    by : (a b : Bool) → list_any is_null_cell xs ≡ a → list_any is_null_cell ys ≡ b → keys_match (eq_by_cmp (slice_cmp cell_cmp)) (cond a None (Some xs)) (cond b None (Some ys)) ≡ rows_match (map value_of xs) (map value_of ys)
    by true b e f = sym (null_left xs ys e)
    by false true e f = sym (null_right xs ys f)
    by false false e f = sym (lists_ties cell_cmp (λ x y. refl) xs ys) ∙ row_same xs ys e

-- ---- the pairs of other rows that match alike

module _ {X Y A B : Type 0} (m : X → Y → Bool) (m2 : A → B → Bool) (f : X → A) (g : Y → B) (same : (x : X) (y : Y) → m x y ≡ m2 (f x) (g y)) where
  positions_alike : (x : X) (at : ℕ) (ys : List Y) → positions_from (m x) at ys ≡ positions_from (m2 (f x)) at (map g ys)
  positions_alike x at [] = refl
  positions_alike x at (y ∷ ys) = λ i. cond (same x y i) (at ∷ positions_alike x (at + 1) ys i) (positions_alike x (at + 1) ys i)

  pairs_from_alike : (i : ℕ) (xs : List X) (ys : List Y) → pairs_from m i xs ys ≡ pairs_from m2 i (map f xs) (map g ys)
  pairs_from_alike i [] ys = refl
  pairs_from_alike i (x ∷ xs) ys = λ t. map (λ j. (i, j)) (positions_alike x 0 ys t) ++ pairs_from_alike (i + 1) xs ys t

  pub pairs_alike : (xs : List X) (ys : List Y) → pairs m xs ys ≡ pairs m2 (map f xs) (map g ys)
  pairs_alike xs ys = pairs_from_alike 0 xs ys

-- ---- pieces

map-take : {X A : Type 0} (f : X → A) (n : ℕ) (xs : List X) → map f (take n xs) ≡ take n (map f xs)
map-take f zero xs = refl
map-take f (suc n) [] = refl
map-take f (suc n) (x ∷ xs) = ap (λ l. f x ∷ l) (map-take f n xs)

map-drop : {X A : Type 0} (f : X → A) (n : ℕ) (xs : List X) → map f (drop n xs) ≡ drop n (map f xs)
map-drop f zero xs = refl
map-drop f (suc n) [] = refl
map-drop f (suc n) (x ∷ xs) = map-drop f n xs

pieces_map : {X A : Type 0} (f : X → A) (width n : ℕ) (xs : List X) → map (map f) (pieces width n xs) ≡ pieces width n (map f xs)
pieces_map f width zero xs = refl
pieces_map f width (suc n) xs = λ i. map-take f width xs i ∷ (pieces_map f width n (drop width xs) ∙ ap (pieces width n) (map-drop f width xs)) i

take_front : {X : Type 0} (n : ℕ) (xs ys : List X) → length xs ≡ n → take n (xs ++ ys) ≡ xs
take_front n xs ys e = take-append-le n xs ys (omega arith) ∙ take_all n xs (omega arith)

drop_front : {X : Type 0} (n : ℕ) (xs ys : List X) → length xs ≡ n → drop n (xs ++ ys) ≡ ys
drop_front n xs ys e = drop-append-le n xs ys (omega arith) ∙ ap (λ l. l ++ ys) (drop_all n xs (omega arith))

pieces_flat : (columns : List (List RowValue)) (at n : ℕ) → pieces (length columns) n (flat_map (λ row. row) (rows_from columns at n)) ≡ rows_from columns at n
pieces_flat columns at zero = refl
pieces_flat columns at (suc n) =
    let rest = flat_map (λ row. row) (rows_from columns (at + 1) n) in
    let len = length-map columns (λ rows. slice_index_or rows at null) in
    λ i. take_front (length columns) (row_at columns at) rest len i ∷ (ap (pieces (length columns) n) (drop_front (length columns) (row_at columns at) rest len) ∙ pieces_flat columns (at + 1) n) i

-- the rows of cells that stand one row after another
pub pieces_rows : (columns : List (List RowValue)) (n : ℕ) (cells : List KeyCell) → map value_of cells ≡ flat_map (λ row. row) (rows_from columns 0 n) → map (map value_of) (pieces (length columns) n cells) ≡ rows_from columns 0 n
pieces_rows columns n cells e = pieces_map value_of (length columns) n cells ∙ ap (pieces (length columns) n) e ∙ pieces_flat columns 0 n

-- ---- the keys, row by row

len_by : (start width m len : ℕ) → start + suc m * width ≡ len → start + width + m * width ≡ len
len_by start width m len h = omega arith

pub len_more : (start width n m len : ℕ) → n ≡ suc m → start + n * width ≡ len → start + width + m * width ≡ len
len_more start width n m len e h = len_by start width m len (ap (λ k. start + k * width) (sym e) ∙ h)

-- ---- the cells, row by row

map_drop_more : {X A : Type 0} (f : X → A) (xs : List X) (k : ℕ) (x : X) → k < length xs → x ≡ get_or xs k x → drop k (map f xs) ≡ f x ∷ drop (k + 1) (map f xs)
map_drop_more f xs k x h is =
    sym (map-drop f k xs) ∙ ap (map f) (drop_more xs k x h) ∙ (λ i. f (sym is i) ∷ map-drop f (k + 1) xs i)

pub row_starts : (columns : List (List RowValue)) (i count : ℕ) (out all : List RowValue) → i < count
    → out ++ flat_map (λ row. row) (rows_from columns i (count - i)) ≡ all
    → (out ++ row_at columns i) ++ flat_map (λ row. row) (rows_from columns (i + 1) (count - (i + 1))) ≡ all
row_starts columns i count out all h e =
    let n : count - i ≡ suc (count - (i + 1)) = omega arith in
    append_assoc out (row_at columns i) _ ∙ ap (λ m. out ++ flat_map (λ row. row) (rows_from columns i m)) (sym n) ∙ e

pub cell_more : (columns : List Column) (k i : ℕ) (column : Column) (cell : KeyCell) (out : List KeyCell) (rest all : List RowValue) → k < length columns
    → column ≡ get_or columns k column → value_of cell ≡ slice_index_or column.rows i null
    → (map value_of out ++ map (λ rows. slice_index_or rows i null) (drop k (rows_of columns))) ++ rest ≡ all
    → (map value_of (out ++ cell ∷ []) ++ map (λ rows. slice_index_or rows i null) (drop (k + 1) (rows_of columns))) ++ rest ≡ all
cell_more columns k i column cell out rest all h is row e =
    let f : Column → List RowValue = λ c. c.rows in
    let g : List RowValue → RowValue = λ rows. slice_index_or rows i null in
    let more = ap (map g) (map_drop_more f columns k column h is) in
    let one = ap (λ x. x ∷ map g (drop (k + 1) (rows_of columns))) (sym row) in
    ap (λ l. (l ++ map g (drop (k + 1) (rows_of columns))) ++ rest) (map-append value_of out (cell ∷ []))
    ∙ ap (λ l. l ++ rest) (append_assoc (map value_of out) (value_of cell ∷ []) (map g (drop (k + 1) (rows_of columns))) ∙ ap (λ l. map value_of out ++ l) (sym (more ∙ one)))
    ∙ e

flat_len : (columns : List (List RowValue)) (at n : ℕ) → length (flat_map (λ row. row) (rows_from columns at n)) ≡ n * length columns
flat_len columns at zero = omega arith
flat_len columns at (suc n) =
    length-append (row_at columns at) _
    ∙ (λ i. length-map columns (λ rows. slice_index_or rows at null) i + flat_len columns (at + 1) n i)
    ∙ omega arith

pub cells_len : (columns : List (List RowValue)) (width n : ℕ) (cells : List KeyCell) → width ≡ length columns → map value_of cells ≡ flat_map (λ row. row) (rows_from columns 0 n) → length cells ≡ n * width
cells_len columns width n cells w e = sym (length-map cells value_of) ∙ ap length e ∙ flat_len columns 0 n ∙ ap (λ x. n * x) (sym w)
