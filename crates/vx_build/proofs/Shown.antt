-- Rows of values of which some aren't there.
use Rattle.std.proofs.Common.{◌≡◌, ℕ, ◌+◌, ◌<◌, ◌++◌, Bool, true, List, [], ◌∷◌, length, get_or, take, map, Option, None, Some, refl, sym, ap, ap₂, subst, ◌∙◌, arith}
use Rattle.std.specs.Prelude.{ℤ, is_some, if◌then◌else◌}
use Rattle.std.specs.Option.{option_map}
use Rattle.std.proofs.lemmas.List.{length-map, length-take-le, map_more, map_push}
use Rattle.vx_types.specs.PType.{number}
use Rattle.vx_types.specs.declared.ptype.PType.{PType}
use Rattle.vx_types.specs.RowValue.{RowValue, bytes, null}
use Rattle.vx_types.specs.TypeTree.{primitive_kind}
use Rattle.vx_types.specs.declared.nullability.Nullability.TheVariants.{Nullable}
use Rattle.std.proofs.lemmas.Simd.{map-map}
use Rattle.vx_model.specs.Bool.{bits_column}
use Rattle.vx_model.specs.Numbers.{number_in, numbers_of}
use Rattle.vx_model.specs.Records.{records_column}
use Rattle.vx_model.specs.Valid.{Valid, by_column, is_fitting, non_nullable, shown_rows, stored_rows}
use Rattle.vx_model.proofs.Layouts.{rows-records-non_nullable}
use Rattle.vx_model.proofs.Takes.{is_left-bits_column, stored-bits_column}
use Rattle.vx_build.specs.Rows.{row_or_null}

-- one row more behind the others
shown_push : (bits : List Bool) (rows : List RowValue) (b : Bool) (x : RowValue) → length bits ≡ length rows → shown_rows (bits ++ b ∷ []) (rows ++ x ∷ []) ≡ shown_rows bits rows ++ shown_rows (b ∷ []) (x ∷ [])
shown_push [] [] b x h = refl
shown_push [] (y ∷ rows) b x h = absurd (omega arith)
shown_push (c ∷ bits) [] b x h = absurd (omega arith)
shown_push (c ∷ bits) (y ∷ rows) b x h = ap (λ l. (if c then y else null) ∷ l) (shown_push bits rows b x (omega arith))

-- what is made of one value more
pub map_item : {X Y : Type 0} (f : X → Y) (xs : List X) (i : ℕ) (x : X) → i < length xs → x ≡ get_or xs i x → map f (take (i + 1) xs) ≡ map f (take i xs) ++ f x ∷ []
map_item f xs i x l there = map_more f xs i x l ∙ ap (λ y. map f (take i xs) ++ f y ∷ []) (sym there)

-- two such lists stay alike
pub alike_more : {X Y : Type 0} (f g : X → Y) (xs : List X) (i : ℕ) (x : X) → i < length xs → x ≡ get_or xs i x → map f (take i xs) ≡ map g (take i xs) → f x ≡ g x → map f (take (i + 1) xs) ≡ map g (take (i + 1) xs)
alike_more f g xs i x l there h e =
    map_item f xs i x l there ∙ ap₂ (λ ys y. ys ++ y ∷ []) h e ∙ sym (map_item g xs i x l there)

-- the record of one value more
pub shown_more : {X : Type 0} (row : X → RowValue) (xs : List (Option X)) (items more : List (List ℕ)) (item : List ℕ) (i : ℕ) (x : Option X) → length items ≡ i → i < length xs → x ≡ get_or xs i x → more ≡ items ++ item ∷ [] → shown_rows (map is_some (take i xs)) (map bytes items) ≡ map (row_or_null row) (take i xs) → shown_rows (is_some x ∷ []) (bytes item ∷ []) ≡ row_or_null row x ∷ [] → shown_rows (map is_some (take (i + 1) xs)) (map bytes more) ≡ map (row_or_null row) (take (i + 1) xs)
shown_more row xs items more item i x n l there is h e =
    let long : length (map is_some (take i xs)) ≡ length (map bytes items) =
    omega (arith, n, length-map (take i xs) is_some, length-take-le i xs (omega (arith, l)), length-map items bytes) in
    ap (λ (r : List (List ℕ)). shown_rows (map is_some (take (i + 1) xs)) (map bytes r)) is
    ∙ ap₂ shown_rows (map_item is_some xs i x l there) (map_push bytes items item)
    ∙ shown_push (map is_some (take i xs)) (map bytes items) (is_some x) (bytes item) long
    ∙ ap₂ ◌++◌ h e
    ∙ sym (map_item (row_or_null row) xs i x l there)

-- the numbers of those that are there
module _ {X : Type 0} (p : PType) (f : X → List ℕ) (g : X → ℤ) where
  read_some : (xs : List (Option X)) → map (number_in (primitive_kind p)) (map (row_or_null (λ x. bytes (f x))) xs) ≡ map (option_map (λ x. number p (f x))) xs
  read_some [] = refl
  read_some (None ∷ xs) = ap (λ l. None ∷ l) (read_some xs)
  read_some (Some x ∷ xs) = ap (λ l. Some (number p (f x)) ∷ l) (read_some xs)

  pub some_numbers : (xs : List (Option X)) → map (option_map (λ x. number p (f x))) xs ≡ map (option_map g) xs → map (number_in (primitive_kind p)) (map (row_or_null (λ x. bytes (f x))) xs) ≡ map (option_map g) xs
  some_numbers xs h = read_some xs ∙ h

-- and of all
pub all_numbers : {X : Type 0} (p : PType) (g : X → ℤ) (xs : List X) (records : List (List ℕ)) → map (number p) records ≡ map g xs → map (number_in (primitive_kind p)) (map bytes records) ≡ map (λ x. Some (g x)) xs
all_numbers p g [] [] h = refl
all_numbers p g [] (r ∷ records) h = cc
all_numbers p g (x ∷ xs) [] h = cc
all_numbers p g (x ∷ xs) (r ∷ records) h =
    let first : number p r ≡ g x = cc in
    let rest : map (number p) records ≡ map g xs = cc in
    ap₂ ◌∷◌ (ap (λ z. Some z) first) (all_numbers p g xs records rest)

-- texts of those that are there
pub shown_texts : {X : Type 0} (text : X → List ℕ) (or_none : Option X → List ℕ) → (or_none_some : (x : X) → or_none (Some x) ≡ text x) → (xs : List (Option X)) → shown_rows (map is_some xs) (map bytes (map or_none xs)) ≡ map (row_or_null (λ x. bytes (text x))) xs
shown_texts text or_none same [] = refl
shown_texts text or_none same (None ∷ xs) = ap (λ l. null ∷ l) (shown_texts text or_none same xs)
shown_texts text or_none same (Some x ∷ xs) = ap₂ (λ t l. bytes t ∷ l) (same x) (shown_texts text or_none same xs)

-- ---- a validity of bits

-- it fits as many rows
pub fits_some : (bits : List Bool) (n : ℕ) → length bits ≡ n → is_fitting (by_column (bits_column bits 0)) n ≡ true
fits_some bits n h =
    subst (λ (k : ℕ). is_fitting (by_column (bits_column bits 0)) k ≡ true) h (is_left-bits_column non_nullable bits 0 Nullable refl).fitting

-- that of values of which some are there
pub fits_values : {X : Type 0} (xs : List (Option X)) (n : ℕ) (v : Valid) → v ≡ by_column (bits_column (map is_some xs) 0) → n ≡ length xs → is_fitting v n ≡ true
fits_values xs n v is h =
    subst (λ (u : Valid). is_fitting u n ≡ true) (sym is)
    (fits_some (map is_some xs) n (length-map xs is_some ∙ sym h))

-- ---- columns of numbers

module _ {X : Type 0} (p q : PType) (same : q ≡ p) (w : ℕ) (records : List (List ℕ)) where
  pub rows_of_all : (f : X → List ℕ) (xs : List X) → records ≡ map f xs → (records_column (record { kind = primitive_kind q; width = w; records = records; valid = non_nullable })).rows ≡ map (λ x. bytes (f x)) xs
  rows_of_all f xs h =
      rows-records-non_nullable (record { kind = primitive_kind q; width = w; records = records; valid = non_nullable }) refl ∙ ap (map bytes) h ∙ map-map bytes f xs

  pub numbers_of_all : (g : X → ℤ) (xs : List X) → map (number p) records ≡ map g xs → numbers_of (records_column (record { kind = primitive_kind q; width = w; records = records; valid = non_nullable })) ≡ map (λ x. Some (g x)) xs
  numbers_of_all g xs h =
      ap (λ (t : PType). numbers_of (records_column (record { kind = primitive_kind t; width = w; records = records; valid = non_nullable }))) same
      ∙ ap (map (number_in (primitive_kind p))) (rows-records-non_nullable (record { kind = primitive_kind p; width = w; records = records; valid = non_nullable }) refl)
      ∙ all_numbers p g xs records h

  pub rows_of_some : (f : X → List ℕ) (xs : List (Option X)) (v : Valid) → v ≡ by_column (bits_column (map is_some xs) 0) → shown_rows (map is_some xs) (map bytes records) ≡ map (row_or_null (λ x. bytes (f x))) xs → (records_column (record { kind = primitive_kind q; width = w; records = records; valid = v })).rows ≡ map (row_or_null (λ x. bytes (f x))) xs
  rows_of_some f xs v is h =
      ap (λ (u : Valid). stored_rows u (map bytes records)) is ∙ stored-bits_column (map is_some xs) (map bytes records) ∙ h

  pub numbers_of_some : (f : X → List ℕ) (g : X → ℤ) (xs : List (Option X)) (v : Valid) → v ≡ by_column (bits_column (map is_some xs) 0) → shown_rows (map is_some xs) (map bytes records) ≡ map (row_or_null (λ x. bytes (f x))) xs → map (option_map (λ x. number p (f x))) xs ≡ map (option_map g) xs → numbers_of (records_column (record { kind = primitive_kind q; width = w; records = records; valid = v })) ≡ map (option_map g) xs
  numbers_of_some f g xs v is h e =
      ap (λ (t : PType). numbers_of (records_column (record { kind = primitive_kind t; width = w; records = records; valid = v }))) same
      ∙ ap (map (number_in (primitive_kind p))) (rows_of_some f xs v is h)
      ∙ some_numbers p f g xs e
