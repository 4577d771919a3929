-- Texts that are put out one after another.
use Rattle.std.proofs.Common.{◌≡◌, ℕ, ◌+◌, ◌^◌, ◌<◌, ◌++◌, List, [], ◌∷◌, length, get_or, map, take, true, refl, sym, ap, ap₂, subst, ◌∙◌}
use Rattle.std.specs.Prelude.{Option}
use Rattle.vx_types.specs.declared.ptype.PType.TheVariants.{I32}
use Rattle.vx_text.specs.Building.{AreTexts}
use Rattle.vx_text.specs.OffsetList.{OffsetList, with_offset}
use Rattle.vx_text.proofs.BuiltTexts.{one_text}
use Rattle.std.proofs.lemmas.List.{length-map, map_more}
use Rattle.std.proofs.lemmas.Simd.{map-map}
use Rattle.std.specs.Prelude.{is_some}
use Rattle.vx_types.specs.RowValue.{bytes}
use Rattle.vx_model.specs.Bool.{bits_column}
use Rattle.vx_model.specs.Valid.{Valid, by_column, is_fitting, non_nullable, stored_rows}
use Rattle.vx_model.proofs.ShownRows.{shown_rows-all}
use Rattle.vx_build.specs.Rows.{bytes_or_none, row_or_null}
use Rattle.vx_build.proofs.Shown.{fits_some, shown_texts}
use Rattle.vx_model.proofs.Takes.{stored-bits_column}

-- one text more
pub next_text : {X : Type 0} (xs : List X) (text_of : X → List ℕ) (i : ℕ) (d : X) (old new : OffsetList) (before more text : List ℕ) → i < length xs → text ≡ text_of (get_or xs i d) → AreTexts I32 old before (map text_of (take i xs)) → length more < 2 ^ 63 → more ≡ before ++ text → new ≡ with_offset old (length more) → AreTexts I32 new more (map text_of (take (i + 1) xs))
next_text xs text_of i d old new before more text l e are short joined is =
    subst (λ (t : List (List ℕ)). AreTexts I32 new more t)
    (ap (λ t. map text_of (take i xs) ++ t ∷ []) e ∙ sym (map_more text_of xs i d l))
    (one_text I32 old new before more text (map text_of (take i xs)) are short joined is)

-- none of them null
pub rows_of_texts : {X : Type 0} (f : X → List ℕ) (xs : List X) (texts : List (List ℕ)) → texts ≡ map f xs → stored_rows non_nullable (map bytes texts) ≡ map (λ x. bytes (f x)) xs
rows_of_texts f xs texts h =
    shown_rows-all _ (map bytes texts) refl ∙ ap (map bytes) h ∙ map-map bytes f xs

-- null where there is none
pub rows_of_some_texts : {X : Type 0} (f : X → List ℕ) (xs : List (Option X)) (texts : List (List ℕ)) (v : Valid) → v ≡ by_column (bits_column (map is_some xs) 0) → texts ≡ map (bytes_or_none f) xs → stored_rows v (map bytes texts) ≡ map (row_or_null (λ x. bytes (f x))) xs
rows_of_some_texts f xs texts v is h =
    ap₂ (λ (u : Valid) (ts : List (List ℕ)). stored_rows u (map bytes ts)) is h
    ∙ stored-bits_column (map is_some xs) (map bytes (map (bytes_or_none f) xs))
    ∙ shown_texts f (bytes_or_none f) (λ x. refl) xs

-- a validity of them fits as many texts
pub fits_texts : {X : Type 0} (f : X → List ℕ) (xs : List (Option X)) (texts : List (List ℕ)) (v : Valid) → v ≡ by_column (bits_column (map is_some xs) 0) → texts ≡ map (bytes_or_none f) xs → is_fitting v (length texts) ≡ true
fits_texts f xs texts v is h =
    ap (λ (u : Valid). is_fitting u (length texts)) is
    ∙ fits_some (map is_some xs) (length texts) (length-map xs is_some ∙ sym (ap length h ∙ length-map xs (bytes_or_none f)))
