-- Rows under their validity.
use Rattle.std.proofs.Common.{◌≡◌, ℕ, true, List, [], ◌∷◌, length, map, refl, sym, ap, ◌∙◌}
use Rattle.std.specs.Prelude.{OnOk, Result, Ok, Err}
use Rattle.std.proofs.lemmas.List.{length-map}
use Rattle.vx_types.specs.RowValue.{RowValue, null, bit, bytes, list, fields, tagged}
use Rattle.vx_types.specs.TypeTree.{TypeKind}
use Rattle.vx_types.specs.declared.nullability.Nullability.{Nullability}
use Rattle.vx_types.specs.declared.nullability.Nullability.TheVariants.{NonNullable, Nullable}
use Rattle.vx_model.specs.Bool.{bits_column}
use Rattle.vx_model.specs.Valid.{Valid, non_nullable, by_column, is_fitting, nullability_by, shown_rows, stored_rows}
use Rattle.vx_model.proofs.ShownRows.{shown_rows-all}
use Rattle.vx_model.proofs.Takes.{is_left-bits_column, stored-bits_column}
use Rattle.vx_interleave.specs.Rows.{IsValidityOf, is_there, shown_as, stored_as}

-- the valid rows, of which each other is a null
shown_there : (k : TypeKind) (rows : List RowValue) → shown_rows (map is_there rows) (map (stored_as k) rows) ≡ rows
shown_there k [] = refl
shown_there k (null ∷ rows) = ap (λ l. null ∷ l) (shown_there k rows)
shown_there k (bit b ∷ rows) = ap (λ l. bit b ∷ l) (shown_there k rows)
shown_there k (bytes b ∷ rows) = ap (λ l. bytes b ∷ l) (shown_there k rows)
shown_there k (list xs ∷ rows) = ap (λ l. list xs ∷ l) (shown_there k rows)
shown_there k (fields xs ∷ rows) = ap (λ l. fields xs ∷ l) (shown_there k rows)
shown_there k (tagged i x ∷ rows) = ap (λ l. tagged i x ∷ l) (shown_there k rows)

-- rows of a type with nulls, as they are
pub shown_all : (k : TypeKind) (rows : List RowValue) → rows ≡ map (shown_as (record { kind = k; nullability = Nullable })) rows
shown_all k [] = refl
shown_all k (x ∷ rows) = ap (λ l. x ∷ l) (shown_all k rows)

pub shown : (n : Nullability) (k : TypeKind) (rows items : List RowValue) (v : Valid) → IsValidityOf n rows v → items ≡ map (stored_as k) rows → stored_rows v items ≡ map (shown_as (record { kind = k; nullability = n })) rows
shown NonNullable k rows items v is h = ap (λ u. stored_rows u items) is ∙ shown_rows-all (length items) items refl ∙ h
shown Nullable k rows items v is h =
    ap (λ u. stored_rows u items) is ∙ stored-bits_column (map is_there rows) items ∙ ap (shown_rows (map is_there rows)) h ∙ shown_there k rows ∙ shown_all k rows

pub fits : (n : Nullability) (rows : List RowValue) (v : Valid) (m : ℕ) → IsValidityOf n rows v → m ≡ length rows → is_fitting v m ≡ true
fits NonNullable rows v m is count = ap (λ u. is_fitting u m) is
fits Nullable rows v m is count =
    ap (λ u. is_fitting u m) is
    ∙ ap (is_fitting (by_column (bits_column (map is_there rows) 0))) (count ∙ sym (length-map rows is_there))
    ∙ (is_left-bits_column non_nullable (map is_there rows) 0 Nullable refl).fitting

pub nulls : (n : Nullability) (rows : List RowValue) (v : Valid) → IsValidityOf n rows v → nullability_by v ≡ n
nulls NonNullable rows v is = ap nullability_by is
nulls Nullable rows v is = ap nullability_by is

pub on_ok : {T E : Type 0} (P Q : Type 0) (r : Result T E) → OnOk r P → (P → Q) → OnOk r Q
on_ok P Q (Ok x) h f = f h
on_ok P Q (Err e) h f = h
