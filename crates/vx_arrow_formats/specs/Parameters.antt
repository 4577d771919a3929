-- The format strings with parameters.
use Rattle.std.specs.Prelude.{ℕ, Bool, ◌||◌, List, [], ◌∷◌, length, drop, codes, ◌==◌, nat_eq, nat_le, if◌then◌else◌, Option, Some, None, is_some, unwrap_or}
use Rattle.std.specs.List.{starts_with}
use Rattle.std.specs.Option.{option_and_then, option_map}
use Rattle.vx_arrow_formats.specs.declared.kind.Kind.{Kind}
use Rattle.vx_arrow_formats.specs.declared.kind.Kind.TheVariants.{Fixed, FixedList, SparseUnion, DenseUnion}
use Rattle.vx_arrow_formats.specs.Ids.{ids_in}
use Rattle.vx_arrow_formats.specs.Numbers.{fields_in, number_in}

-- how many bytes a decimal of so many bits has
abbrev pub width_in : ℕ → Option ℕ
width_in bits =
    if bits == 32 then Some 4
    else if bits == 64 then Some 8
    else if bits == 128 then Some 16
    else if bits == 256 then Some 32
    else None

-- a scale, which may be negative
abbrev pub is_scale : List ℕ → Bool
is_scale text =
    if starts_with nat_eq text (codes "-") then is_some (number_in (drop 1 text))
    else is_some (number_in text)

-- how many bytes a decimal has, by the number of bits behind its scale; without one 16
abbrev pub width_of_bits : List (List ℕ) → Option ℕ
width_of_bits [] = Some 16
width_of_bits (b ∷ []) = option_and_then width_in (number_in b)
width_of_bits (b ∷ (f ∷ fs)) = None

-- a precision, a scale and, if it isn't 128, a number of bits
abbrev pub decimal_in : List (List ℕ) → Option Kind
decimal_in [] = None
decimal_in (p ∷ []) = None
decimal_in (p ∷ (s ∷ bits)) =
    if is_some (number_in p) then
    (if is_scale s then option_map Fixed (width_of_bits bits) else None)
    else None

-- timestamps in a time zone, which is any text
abbrev pub is_time_zoned : List ℕ → Bool
is_time_zoned text =
    starts_with nat_eq text (codes "tss:")
    || (starts_with nat_eq text (codes "tsm:")
    || (starts_with nat_eq text (codes "tsu:") || starts_with nat_eq text (codes "tsn:")))

-- the ids that the format of a union lists
abbrev pub union_ids_in : List ℕ → Option (List ℕ)
union_ids_in text =
    if starts_with nat_eq text (codes "+us:") || starts_with nat_eq text (codes "+ud:") then
    ids_in (drop 4 text)
    else None

-- these, where there is room for them
abbrev pub written_ids : List ℕ → ℕ → List ℕ
written_ids text room =
    if nat_le (length (unwrap_or (union_ids_in text) [])) room then
    unwrap_or (union_ids_in text) []
    else []

-- a union with a child for each id
abbrev pub union_in : List ℕ → Option Kind
union_in text =
    if starts_with nat_eq text (codes "+us:") then
    option_map (λ ids. SparseUnion (length ids)) (union_ids_in text)
    else option_map (λ ids. DenseUnion (length ids)) (union_ids_in text)

-- the kind that a text with parameters names
abbrev pub sized_in : List ℕ → Option Kind
sized_in text =
    if starts_with nat_eq text (codes "w:") then option_map Fixed (number_in (drop 2 text))
    else if starts_with nat_eq text (codes "+w:") then
    option_map FixedList (number_in (drop 3 text))
    else if starts_with nat_eq text (codes "d:") then decimal_in (fields_in (drop 2 text))
    else if is_time_zoned text then Some (Fixed 8)
    else union_in text
