-- The rows of the layouts that stand for rows of other columns, or for one value.
use Rattle.std.proofs.Common.{◌≡◌, ℕ, ◌<◌, Bool, true, false, map, length, get_or, Option, None, Some, refl, sym, ap, ◌∙◌, arith}
use Rattle.std.specs.Prelude.{ℤ, is_some, IfSome}
use Rattle.std.specs.Option.{option_map}
use Rattle.std.proofs.lemmas.List.{length-map, get_or-map, length-replicate, get_or-replicate}
use Rattle.std.proofs.lemmas.Bool.Decides.{nat_tests}
use Rattle.vx_bits.specs.BitBuffer.{true_count_of}
use Rattle.vx_mask.specs.Mask.{mask_bits}
use Rattle.vx_mask.specs.Positions.{rank_of, set_of}
use Rattle.vx_mask.proofs.PositionLists.{rank_within, length-positions}
use Rattle.vx_types.specs.Nullability.{either_nullable}
use Rattle.vx_types.specs.RowValue.{null}
use Rattle.vx_types.specs.TypeTree.{TypeKind, TypeTree, null_kind, extension_kind, is_carried_as, is_carried, is_int_type, also_nullable}
use Rattle.vx_types.specs.declared.nullability.Nullability.{Nullability}
use Rattle.vx_types.specs.declared.nullability.Nullability.TheVariants.{NonNullable, Nullable}
use Rattle.vx_take.specs.Picks.{item_at}
use Rattle.vx_take.proofs.TakenLists.{take_at_the_set}
use Rattle.vx_positions.specs.Positions.{first_bad, is_position, position_of, positions_of}
use Rattle.vx_positions.proofs.NumberLists.{each_is_position}
use Rattle.vx_model.specs.Numbers.{number_in, numbers_of}
use Rattle.vx_model.specs.Constant.{ConstantParts, constant_column}
use Rattle.vx_model.specs.Dict.{DictParts, dict_fault, dict_column}
use Rattle.vx_model.specs.Filter.{FilterParts, filter_fault, filter_column}
use Rattle.vx_model.proofs.Takes.{length-at}
use Rattle.vx_mask.proofs.RankedItems.{length-items_where_true}

-- ---- how many

pub length-constant : (p : ConstantParts) → length (constant_column p).rows ≡ p.len
length-constant p = length-replicate p.len p.scalar.row

pub length-dict : (p : DictParts) → length (dict_column p).rows ≡ length p.codes.rows
length-dict p =
    length-at null p.values.rows (positions_of (numbers_of p.codes))
    ∙ length-map (numbers_of p.codes) (option_map position_of) ∙ length-map p.codes.rows (number_in p.codes.dtype.kind)

pub long-filter : (p : FilterParts) → filter_fault p ≡ None → length (mask_bits p.mask) ≡ length p.child.rows
long-filter p h = grind (arith, nat_tests)

pub length-filter : (p : FilterParts) → filter_fault p ≡ None → length (filter_column p).rows ≡ true_count_of (mask_bits p.mask)
length-filter p h = length-items_where_true (mask_bits p.mask) p.child.rows (long-filter p h)

-- ---- row i

pub row-constant : (p : ConstantParts) (i : ℕ) → i < p.len → get_or (constant_column p).rows i null ≡ p.scalar.row
row-constant p i l = get_or-replicate p.len i p.scalar.row null l

-- the number that code i is
abbrev code_at : DictParts → ℕ → Option ℤ
code_at p i = number_in p.codes.dtype.kind (get_or p.codes.rows i null)

number_at : (p : DictParts) (i : ℕ) → i < length p.codes.rows → get_or (numbers_of p.codes) i None ≡ code_at p i
number_at p i l = get_or-map (number_in p.codes.dtype.kind) p.codes.rows i null None l

pub row-dict : (p : DictParts) (i : ℕ) → i < length p.codes.rows → get_or (dict_column p).rows i null ≡ item_at null p.values.rows (option_map position_of (number_in p.codes.dtype.kind (get_or p.codes.rows i null)))
row-dict p i l =
    let numbers = numbers_of p.codes in
    let long = length-map p.codes.rows (number_in p.codes.dtype.kind) in
    let longer = length-map numbers (option_map position_of) in
    get_or-map (item_at null p.values.rows) (positions_of numbers) i None null (omega (arith, long, longer))
    ∙ ap (item_at null p.values.rows) (get_or-map (option_map position_of) numbers i None None (omega (arith, long)) ∙ ap (option_map position_of) (number_at p i l))

no_bad : (b : Bool) (x : Option ℤ) → b ≡ is_some x → b ≡ false → x ≡ None
no_bad b None e h = refl
no_bad b (Some z) e h = let no : false ≡ true = sym h ∙ e in cc

pub sound-dict : (p : DictParts) → dict_fault p ≡ None → first_bad (length p.values.rows) (numbers_of p.codes) ≡ None
sound-dict p h =
    let none : is_some (first_bad (length p.values.rows) (numbers_of p.codes)) ≡ false = grind arith in
    no_bad _ (first_bad (length p.values.rows) (numbers_of p.codes)) refl none

pub int-dict : (p : DictParts) → dict_fault p ≡ None → is_int_type p.codes.dtype ≡ true
int-dict p h = grind arith

pub code_names : (p : DictParts) (i : ℕ) (z : ℤ) → dict_fault p ≡ None → i < length p.codes.rows → number_in p.codes.dtype.kind (get_or p.codes.rows i null) ≡ Some z → is_position (length p.values.rows) z ≡ true
code_names p i z h l is =
    let xs = numbers_of p.codes in
    let each : IfSome (get_or xs i None) (λ y. is_position (length p.values.rows) y ≡ true) =
    each_is_position (length p.values.rows) xs i (sound-dict p h) (omega (arith, length-map p.codes.rows (number_in p.codes.dtype.kind))) in
    rw (number_at p i l ∙ is) at each

pub row-filter : (p : FilterParts) (i : ℕ) → filter_fault p ≡ None → i < true_count_of (mask_bits p.mask) → get_or (filter_column p).rows i null ≡ get_or p.child.rows (rank_of (mask_bits p.mask) i) null
row-filter p i h l =
    let set = set_of (mask_bits p.mask) in let rows = p.child.rows in
    let long : i < length set = omega (arith, l, length-positions 0 (mask_bits p.mask)) in
    let longer : i < length (map (λ (k : ℕ). Some k) set) = omega (arith, long, length-map set (λ (k : ℕ). Some k)) in
    ap (λ xs. get_or xs i null) (take_at_the_set null (mask_bits p.mask) rows (long-filter p h))
    ∙ get_or-map (item_at null rows) (map Some set) i None null longer
    ∙ ap (item_at null rows) (get_or-map (λ (k : ℕ). Some k) set i 0 None long)

pub rank-filter : (p : FilterParts) (i : ℕ) → filter_fault p ≡ None → i < true_count_of (mask_bits p.mask) → rank_of (mask_bits p.mask) i < length p.child.rows
rank-filter p i h l = omega (arith, rank_within (mask_bits p.mask) i l, long-filter p h)

-- ---- types that a column may have

carried_nullable : (k : TypeKind) (m : Nullability) → is_carried_as k m ≡ true → is_carried_as k Nullable ≡ true
carried_nullable null_kind m h = refl
carried_nullable (extension_kind s k) m h = carried_nullable k m h
carried_nullable k m h = h

carried_either : (k : TypeKind) (m n : Nullability) → is_carried_as k m ≡ true → is_carried_as k (either_nullable m n) ≡ true
carried_either k NonNullable NonNullable h = h
carried_either k NonNullable Nullable h = carried_nullable k NonNullable h
carried_either k Nullable n h = h

pub carried-also : (t : TypeTree) (n : Nullability) → is_carried t ≡ true → is_carried (also_nullable t n) ≡ true
carried-also t n h = carried_either t.kind t.nullability n h

-- what a proof about the length or about one row needs
pub ruleset lazy_rows = (length-constant, length-dict, length-filter, long-filter, row-constant, row-dict, row-filter, rank-filter, int-dict, sound-dict, code_names, carried-also)
