-- The numbers of a column, by its rows and by its records.
use Rattle.std.proofs.Common.{◌≡◌, ℕ, ◌<◌, Bool, true, false, List, [], ◌∷◌, map, length, get_or, None, Some, refl, sym, ap, ap₂, ◌∙◌}
use Rattle.std.specs.Prelude.{if◌then◌else◌}
use Rattle.std.proofs.lemmas.List.{length-map, get_or-map}
use Rattle.vx_model.specs.Column.{Column}
use Rattle.vx_model.specs.Numbers.{numbers_of, number_in}
use Rattle.vx_types.specs.PType.{is_int, width}
use Rattle.vx_types.specs.RowValue.{null, bytes}
use Rattle.vx_types.specs.TypeTree.{TypeKind, TypeTree, primitive_kind, int_kind_of, int_type_of, is_int_kind, is_int_type, kind_width, type_width}
use Rattle.vx_types.specs.declared.ptype.PType.{PType}
use Rattle.vx_model.specs.Valid.{shown_rows}
use Rattle.vx_positions.specs.Stored.{number_of, present_numbers, shown_numbers}

-- the number in row i of a column
pub number_of_row : (c : Column) (i : ℕ) → i < length c.rows → get_or (numbers_of c) i None ≡ number_in c.dtype.kind (get_or c.rows i null)
number_of_row c i h = get_or-map (number_in c.dtype.kind) c.rows i null None h

pub length-numbers_of : (c : Column) → length (numbers_of c) ≡ length c.rows
length-numbers_of c = length-map c.rows (number_in c.dtype.kind)

-- what a proof about one of its numbers needs
pub ruleset numbers = (length-numbers_of, number_of_row)

-- ---- the numbers of a column, by its records

int_by : (q p : PType) → (if is_int q then Some q else None) ≡ Some p → is_int p ≡ true
int_by q p h = at (is_int q) refl h
  where
    at : (b : Bool) → is_int q ≡ b → (if b then Some q else None) ≡ Some p → is_int p ≡ true
    at true e h = let same : q ≡ p = cc in ap is_int (sym same) ∙ e
    at false e h = cc

same_by : (q p : PType) (b : Bool) → (if b then Some q else None) ≡ Some p → q ≡ p
same_by q p true h = cc
same_by q p false h = cc

-- a kind of integers is that primitive kind
kind_typed : (k : TypeKind) (p : PType) → int_kind_of k ≡ Some p → k ≡ primitive_kind p
kind_typed (primitive_kind q) p h = ap primitive_kind (same_by q p (is_int q) h)
kind_typed k p h = cc

int_typed : (k : TypeKind) (p : PType) → int_kind_of k ≡ Some p → is_int p ≡ true
int_typed (primitive_kind q) p h = int_by q p h
int_typed k p h = cc

pub primitive-typed : (t : TypeTree) (p : PType) → int_type_of t ≡ Some p → t.kind ≡ primitive_kind p
primitive-typed t p h = kind_typed t.kind p h

pub is_int-typed : (t : TypeTree) (p : PType) → int_type_of t ≡ Some p → is_int p ≡ true
is_int-typed t p h = int_typed t.kind p h

pub is_int_type-typed : (t : TypeTree) (p : PType) → int_type_of t ≡ Some p → is_int_type t ≡ true
is_int_type-typed t p h = ap is_int_kind (primitive-typed t p h) ∙ is_int-typed t p h

pub width-typed : (t : TypeTree) (p : PType) (w : ℕ) → int_type_of t ≡ Some p → Some w ≡ type_width t → w ≡ width p
width-typed t p w h e = let same : Some w ≡ Some (width p) = e ∙ ap kind_width (primitive-typed t p h) in cc

numbers-rows : (p : PType) (records : List (List ℕ)) → map (number_in (primitive_kind p)) (map bytes records) ≡ present_numbers p records
numbers-rows p [] = refl
numbers-rows p (r ∷ records) = ap (λ l. number_of p r ∷ l) (numbers-rows p records)

numbers-shown_rows : (p : PType) (bits : List Bool) (records : List (List ℕ)) → map (number_in (primitive_kind p)) (shown_rows bits (map bytes records)) ≡ shown_numbers p bits records
numbers-shown_rows p [] records = refl
numbers-shown_rows p (b ∷ bits) [] = refl
numbers-shown_rows p (true ∷ bits) (r ∷ records) = ap (λ l. number_of p r ∷ l) (numbers-shown_rows p bits records)
numbers-shown_rows p (false ∷ bits) (r ∷ records) = ap (λ l. None ∷ l) (numbers-shown_rows p bits records)

pub numbers-present : (c : Column) (p : PType) (records : List (List ℕ)) → int_type_of c.dtype ≡ Some p → c.rows ≡ map bytes records → numbers_of c ≡ present_numbers p records
numbers-present c p records h rows =
    ap₂ (λ k xs. map (number_in k) xs) (primitive-typed c.dtype p h) rows ∙ numbers-rows p records

pub numbers-shown : (c : Column) (p : PType) (bits : List Bool) (records : List (List ℕ)) → int_type_of c.dtype ≡ Some p → c.rows ≡ shown_rows bits (map bytes records) → numbers_of c ≡ shown_numbers p bits records
numbers-shown c p bits records h rows =
    ap₂ (λ k xs. map (number_in k) xs) (primitive-typed c.dtype p h) rows ∙ numbers-shown_rows p bits records

-- what a proof about the numbers of a column needs
pub ruleset stored = (is_int-typed, is_int_type-typed, width-typed, numbers-present, numbers-shown)
