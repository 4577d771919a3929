-- Structs whose fields are gathered.
use Rattle.std.proofs.Common.{◌≡◌, ℕ, zero, suc, ◌+◌, ◌<◌, true, List, [], ◌∷◌, ◌++◌, length, map, get_or, drop, refl, sym, ap, ap₂, ◌∙◌, arith}
use Rattle.std.specs.Prelude.{◌==◌, Ok, Result, replicate}
use Rattle.vx_bits.specs.Results.{ok_unless}
use Rattle.std.proofs.lemmas.Bool.Decides.{nat_tests}
use Rattle.std.proofs.lemmas.List.{length-map}
use Rattle.vx_types.specs.RowValue.{RowValue, null, fields, row_values}
use Rattle.vx_types.specs.FieldTypes.{FieldTypes}
use Rattle.vx_types.specs.TypeTree.{TypeTree, types_of, struct_kind}
use Rattle.vx_types.specs.declared.error.ColumnError.{ColumnError}
use Rattle.vx_model.specs.Column.{Column}
use Rattle.vx_model.specs.Columns.{are_long, rows_across, types_in, with_fronts}
use Rattle.vx_model.specs.Filler.{filler_row}
use Rattle.vx_model.specs.Struct.{StructParts, fields_row, struct_fault}
use Rattle.vx_model.specs.Valid.{is_fitting}
use Rattle.vx_model.proofs.StructSteps.{fault-made}
use Rattle.vx_column.specs.StructParts.{struct_parts}
use Rattle.vx_column.specs.Validity.{valid_of}
use Rattle.vx_column.specs.declared.validity.Validity.{Validity}
use Rattle.vx_interleave.specs.Rows.{stored_as, values_of}
use Rattle.vx_interleave.specs.Structs.{AreFields, field_in}
use Rattle.vx_model.proofs.Fillers.{values-fields}

-- ---- the rows that a row is made of

pub values-row_values : (xs : List RowValue) → values_of (row_values xs) ≡ xs
values-row_values [] = refl
values-row_values (x ∷ xs) = ap (λ l. x ∷ l) (values-row_values xs)

-- ---- the fields of one row

-- the fields of a row from field k on
abbrev pub fields_from : ℕ → List TypeTree → RowValue → List RowValue
fields_from k [] x = []
fields_from k (t ∷ ts) x = field_in t k x ∷ fields_from (suc k) ts x

fields-null : (k : ℕ) (ts : List TypeTree) → fields_from k ts null ≡ map filler_row ts
fields-null k [] = refl
fields-null k (t ∷ ts) = ap (λ l. filler_row t ∷ l) (fields-null (suc k) ts)

drop-get : (xs : List RowValue) (k : ℕ) → k < length xs → drop k xs ≡ get_or xs k null ∷ drop (suc k) xs
drop-get [] k h = absurd (omega arith)
drop-get (x ∷ xs) zero h = refl
drop-get (x ∷ xs) (suc k) h = drop-get xs k (omega arith)

drop-none : (xs : List RowValue) (k : ℕ) → k ≡ length xs → drop k xs ≡ []
drop-none [] zero h = refl
drop-none [] (suc k) h = refl
drop-none (x ∷ xs) zero h = absurd (omega arith)
drop-none (x ∷ xs) (suc k) h = drop-none xs k (omega arith)

fields-there : (k : ℕ) (ts : List TypeTree) (xs : List RowValue) → length xs ≡ k + length ts → fields_from k ts (fields (row_values xs)) ≡ drop k xs
fields-there k [] xs h = sym (drop-none xs k (omega arith))
fields-there k (t ∷ ts) xs h =
    ap₂ ◌∷◌ (ap (λ l. get_or l k null) (values-row_values xs)) (fields-there (suc k) ts xs (omega arith))
    ∙ sym (drop-get xs k (omega arith))

pub row-null : (names : List (List ℕ)) (ts : List TypeTree) → fields_row (fields_from 0 ts null) ≡ stored_as (struct_kind names (types_of ts)) null
row-null names ts = ap fields_row (fields-null 0 ts) ∙ ap fields (sym (values-fields ts))

pub row-there : (names : List (List ℕ)) (ts : List TypeTree) (xs : List RowValue) → length xs ≡ length ts → fields_row (fields_from 0 ts (fields_row xs)) ≡ stored_as (struct_kind names (types_of ts)) (fields_row xs)
row-there names ts xs h = ap fields_row (fields-there 0 ts xs (omega arith))

-- ---- the columns of fields

pub fields_types : (k : ℕ) (ts : List TypeTree) (rows : List RowValue) (cs : List Column) → AreFields k ts rows cs → types_in cs ≡ ts
fields_types k [] rows [] h = refl
fields_types k [] rows (c ∷ cs) h = absurd h
fields_types k (t ∷ ts) rows [] h = absurd h
fields_types k (t ∷ ts) rows (c ∷ cs) h = ap₂ (λ (u : TypeTree) us. u ∷ us) h.0.0 (fields_types (suc k) ts rows cs h.1)

pub fields_long : (k : ℕ) (ts : List TypeTree) (rows : List RowValue) (cs : List Column) → AreFields k ts rows cs → are_long (length rows) cs ≡ true
fields_long k [] rows [] h = refl
fields_long k [] rows (c ∷ cs) h = absurd h
fields_long k (t ∷ ts) rows [] h = absurd h
fields_long k (t ∷ ts) rows (c ∷ cs) h =
    let long : length c.rows ≡ length rows = ap length h.0.1 ∙ length-map rows (field_in t k) in
    let same : (length c.rows == length rows) ≡ true = grind (arith, nat_tests) in
    rw (same, fields_long (suc k) ts rows cs h.1) refl

fronts-map : (f : RowValue → RowValue) (g : RowValue → List RowValue) (rows : List RowValue) → with_fronts (map f rows) (map g rows) ≡ map (λ x. f x ∷ g x) rows
fronts-map f g [] = refl
fronts-map f g (x ∷ rows) = ap (λ l. (f x ∷ g x) ∷ l) (fronts-map f g rows)

nothing-map : (rows : List RowValue) → replicate (length rows) [] ≡ map (λ (x : RowValue). fields_from 0 [] x) rows
nothing-map [] = refl
nothing-map (x ∷ rows) = ap (λ l. [] ∷ l) (nothing-map rows)

pub fields_across : (k : ℕ) (ts : List TypeTree) (rows : List RowValue) (cs : List Column) → AreFields k ts rows cs → rows_across cs (length rows) ≡ map (fields_from k ts) rows
fields_across k [] rows [] h = nothing-map rows
fields_across k [] rows (c ∷ cs) h = absurd h
fields_across k (t ∷ ts) rows [] h = absurd h
fields_across k (t ∷ ts) rows (c ∷ cs) h =
    ap₂ with_fronts h.0.1 (fields_across (suc k) ts rows cs h.1) ∙ fronts-map (field_in t k) (fields_from (suc k) ts) rows

pub fields_none : (rows : List RowValue) → AreFields 0 [] rows []
fields_none rows = tt

pub fields_append : (k : ℕ) (ts : List TypeTree) (rows : List RowValue) (cs : List Column) (t : TypeTree) (c : Column) → AreFields k ts rows cs → c.dtype ≡ t → c.rows ≡ map (field_in t (k + length ts)) rows → AreFields k (ts ++ t ∷ []) rows (cs ++ c ∷ [])
fields_append k [] rows [] t c h dtype is =
    let none : k + 0 ≡ k = omega arith in
    ((dtype, is ∙ ap (λ n. map (field_in t n) rows) none), tt)
fields_append k [] rows (d ∷ cs) t c h dtype is = absurd h
fields_append k (u ∷ ts) rows [] t c h dtype is = absurd h
fields_append k (u ∷ ts) rows (d ∷ cs) t c h dtype is =
    let next : k + length (u ∷ ts) ≡ suc k + length ts = omega arith in
    (h.0, fields_append (suc k) ts rows cs t c h.1 dtype (is ∙ ap (λ n. map (field_in t n) rows) next))

-- ---- the column of structs

-- they are taken, with fields that are shared
pub made_structs : {r : Result StructParts ColumnError} (cs : List Column) (f t : FieldTypes) (len : ℕ) (v : Validity) → types_in cs ≡ f.types → are_long len cs ≡ true → is_fitting (valid_of v) len ≡ true → t ≡ f → r ≡ ok_unless (struct_fault (struct_parts cs t len v)) (struct_parts cs t len v) → r ≡ Ok (struct_parts cs f len v)
made_structs cs f t len v same long fit shared told =
    told
    ∙ ap (λ (x : FieldTypes). let q : StructParts = struct_parts cs x len v in ok_unless (struct_fault q) q) shared
    ∙ ap (λ fault. ok_unless fault (struct_parts cs f len v)) (fault-made (struct_parts cs f len v) same long fit)
