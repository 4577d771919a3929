-- A number in front of a key changes no match.
use Rattle.std.proofs.Common.{◌≡◌, ℕ, suc, ◌+◌, ◌-◌, Bool, true, false, ◌&&◌, List, [], ◌∷◌, ◌++◌, length, map, take, drop, Option, None, Some, refl, sym, ◌∙◌, ap, append_assoc, Ordering, eq-eqb}
use Rattle.std.specs.Ordering.{is_eq, eq_by_cmp, nat_cmp, ordering_then}
use Rattle.std.specs.declared.cmp.Ordering.TheVariants.{Less, Equal, Greater}
use Rattle.std.specs.Cmp.{unsigned_ties}
use Rattle.std.specs.Cmp.Lexicographic.{slice_cmp, texts_ties, bytes_decides}
use Rattle.std.specs.List.{flat_map}
use Rattle.std.proofs.lemmas.List.{drop-drop, map-append}
use Rattle.vx_join.specs.declared.cells.KeyCell.{KeyCell}
use Rattle.vx_join.specs.declared.cells.KeyCell.TheVariants as cells
use Rattle.vx_join.specs.declared.prefixes.RowKey.{RowKey}
use Rattle.vx_join.specs.contracts.prefixes.RowKeyOrd.TheImpl as order
use Rattle.vx_join.specs.Chains.{keys_match}
use Rattle.vx_join.specs.Pairs.{pairs}
use Rattle.vx_types.specs.RowValue.{RowValue, bytes}
use Rattle.vx_join.specs.Keys.{rows_match, rows_from}
use Rattle.vx_join.specs.Cells.{value_of, key_cells, key_parts, with_prefix, row_prefix, value_prefix, pieces}
use Rattle.vx_join.proofs.CellRows.{cell_cmp, cells_match, pairs_alike, pieces_rows}

-- cells that compare as equal have the same value
same_row : (x y : KeyCell) → is_eq (cell_cmp x y) ≡ true → value_of x ≡ value_of y
same_row cells.Null cells.Null h = refl
same_row cells.Null (cells.Bit b) h = absurd (cc)
same_row cells.Null (cells.Bytes b) h = absurd (cc)
same_row (cells.Bit b) cells.Null h = absurd (cc)
same_row (cells.Bit true) (cells.Bit true) h = refl
same_row (cells.Bit true) (cells.Bit false) h = absurd (cc)
same_row (cells.Bit false) (cells.Bit true) h = absurd (cc)
same_row (cells.Bit false) (cells.Bit false) h = refl
same_row (cells.Bit b) (cells.Bytes c) h = absurd (cc)
same_row (cells.Bytes a) cells.Null h = absurd (cc)
same_row (cells.Bytes a) (cells.Bit b) h = absurd (cc)
same_row (cells.Bytes a) (cells.Bytes b) h = ap bytes ((bytes_decides a.now b.now).0 (texts_ties a.now b.now ∙ h))

then_first : (o p : Ordering) → is_eq (ordering_then o p) ≡ true → is_eq o ≡ true
then_first Less p h = absurd (cc)
then_first Equal p h = refl
then_first Greater p h = absurd (cc)

-- rows that compare as equal share the number
same_prefix : (xs ys : List KeyCell) → is_eq (slice_cmp cell_cmp xs ys) ≡ true → row_prefix xs ≡ row_prefix ys
same_prefix [] [] h = refl
same_prefix [] (y ∷ ys) h = absurd (cc)
same_prefix (x ∷ xs) [] h = absurd (cc)
same_prefix (x ∷ xs) (y ∷ ys) h = ap value_prefix (same_row x y (then_first (cell_cmp x y) (slice_cmp cell_cmp xs ys) h))

then_is : (o p : Ordering) → is_eq (ordering_then o p) ≡ (is_eq o && is_eq p)
then_is Less p = refl
then_is Equal p = refl
then_is Greater p = refl

and_so : (a b : Bool) → (b ≡ true → a ≡ true) → (a && b) ≡ b
and_so true b h = refl
and_so false true h = h refl
and_so false false h = refl

nat_same : (m n : ℕ) → m ≡ n → is_eq (nat_cmp m n) ≡ true
nat_same m n e = sym (unsigned_ties m n) ∙ eq-eqb m n e

abbrev pub key_cmp : RowKey → RowKey → Ordering
key_cmp = order.ghosts.cmp

abbrev parts_same : ℕ × List KeyCell → ℕ × List KeyCell → Bool
parts_same p q = is_eq (ordering_then (nat_cmp p.0 q.0) (slice_cmp cell_cmp p.1 q.1))

parts_match : (x y : Option RowKey) → keys_match (eq_by_cmp key_cmp) x y ≡ keys_match parts_same (key_parts x) (key_parts y)
parts_match None y = refl
parts_match (Some k) None = refl
parts_match (Some k) (Some q) = refl

prefixed_match : (x y : Option (List KeyCell)) → keys_match parts_same (with_prefix x) (with_prefix y) ≡ keys_match (eq_by_cmp (slice_cmp cell_cmp)) x y
prefixed_match None y = refl
prefixed_match (Some xs) None = refl
prefixed_match (Some xs) (Some ys) =
    then_is (nat_cmp (row_prefix xs) (row_prefix ys)) (slice_cmp cell_cmp xs ys)
    ∙ and_so (is_eq (nat_cmp (row_prefix xs) (row_prefix ys))) (is_eq (slice_cmp cell_cmp xs ys)) (λ h. nat_same (row_prefix xs) (row_prefix ys) (same_prefix xs ys h))

abbrev parts_of : List KeyCell → Option (ℕ × List KeyCell)
parts_of row = with_prefix (key_cells row)

-- the cells of a table, one row after another, and the keys of its rows
pub record AreKeys (columns : List (List RowValue)) (width n : ℕ) (cells : List KeyCell) (keys : List (Option RowKey)) : Type 0 where
  pub long : width ≡ length columns
  pub values : map value_of cells ≡ flat_map (λ row. row) (rows_from columns 0 n)
  pub parts : map key_parts keys ≡ map (λ row. with_prefix (key_cells row)) (pieces width n cells)

pub pairs_of_prefixed : (left right : List (List RowValue)) (left_width right_width n m : ℕ) (left_cells right_cells : List KeyCell) (left_keys right_keys : List (Option RowKey))
    → AreKeys left left_width n left_cells left_keys → AreKeys right right_width m right_cells right_keys
    → pairs (keys_match (eq_by_cmp key_cmp)) left_keys right_keys ≡ pairs rows_match (rows_from left 0 n) (rows_from right 0 m)
pairs_of_prefixed left right left_width right_width n m left_cells right_cells left_keys right_keys l r =
    let lp = pieces left_width n left_cells in
    let rp = pieces right_width m right_cells in
    pairs_alike (keys_match (eq_by_cmp key_cmp)) (keys_match parts_same) key_parts key_parts parts_match left_keys right_keys
    ∙ (λ i. pairs (keys_match parts_same) (l.parts i) (r.parts i))
    ∙ sym (pairs_alike (λ xs ys. keys_match parts_same (parts_of xs) (parts_of ys)) (keys_match parts_same) parts_of parts_of (λ x y. refl) lp rp)
    ∙ pairs_alike (λ xs ys. keys_match parts_same (parts_of xs) (parts_of ys)) rows_match (map value_of) (map value_of) (λ xs ys. prefixed_match (key_cells xs) (key_cells ys) ∙ cells_match xs ys) lp rp
    ∙ (λ i. pairs rows_match (map (map value_of) (pieces (l.long i) n left_cells)) (map (map value_of) (pieces (r.long i) m right_cells)))
    ∙ (λ i. pairs rows_match (pieces_rows left n left_cells l.values i) (pieces_rows right m right_cells r.values i))

-- one more key
pub parts_more : {K P X : Type 0} (f : K → P) (g : List X → P) (width start n m : ℕ) (cells row : List X) (out : List K) (key : K) (all : List P)
    → n ≡ suc m → f key ≡ g row → row ≡ take width (drop start cells)
    → map f out ++ map g (pieces width n (drop start cells)) ≡ all
    → map f (out ++ key ∷ []) ++ map g (pieces width m (drop (start + width) cells)) ≡ all
parts_more f g width start n m cells row out key all e is front h =
    let rest = map g (pieces width m (drop (start + width) cells)) in
    let here : g (take width (drop start cells)) ∷ rest ≡ map g (pieces width n (drop start cells)) =
    ap (λ l. g (take width (drop start cells)) ∷ map g (pieces width m l)) (sym (drop-drop width start cells))
    ∙ ap (λ k. map g (pieces width k (drop start cells))) (sym e) in
    ap (λ l. l ++ rest) (map-append f out (key ∷ []))
    ∙ append_assoc (map f out) (f key ∷ []) rest
    ∙ ap (λ k. map f out ++ (k ∷ rest)) (is ∙ ap g front)
    ∙ ap (λ l. map f out ++ l) here
    ∙ h
