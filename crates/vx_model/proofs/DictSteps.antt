-- What a step leaves of a dictionary.
use Rattle.std.proofs.Common.{◌≡◌, ℕ, Bool, true, List, false, map, length, slice_range, Option, None, refl, sym, ap, ap₂, ◌∙◌, arith}
use Rattle.std.specs.List.{items_where_true}
use Rattle.std.specs.Option.{option_map}
use Rattle.vx_types.specs.TypeTree.{TypeTree, also_nullable, is_int_type}
use Rattle.vx_types.specs.RowValue.{null}
use Rattle.vx_types.specs.declared.nullability.Nullability.{Nullability}
use Rattle.vx_take.specs.Picks.{at, item_at}
use Rattle.vx_take.proofs.TakenLists.{takes_join}
use Rattle.vx_positions.specs.Positions.{first_bad, position_of, positions_of}
use Rattle.vx_model.specs.Column.{Column}
use Rattle.vx_model.specs.Dict.{DictParts, dict_fault, dict_column, dict_with}
use Rattle.vx_model.specs.Numbers.{numbers_of, number_in}
use Rattle.vx_model.specs.Step.{IsStep, IsCut, IsSlice, IsTake}
use Rattle.vx_model.specs.Valid.{is_yes}
use Rattle.vx_model.proofs.Items.{map-items_where_true, map-slice_range}
use Rattle.vx_model.proofs.Takes.{map-at}
use Rattle.vx_model.proofs.LazyRows.{int-dict, sound-dict}
use Rattle.vx_model.proofs.Nullabilities.{also_nullable-codes}
use Rattle.vx_model.proofs.CodeNumbers.{numbers_of-slice, numbers_of-filter, numbers_of-take, first_bad-slice, first_bad-filter, first_bad-picks}

faultless : (p : DictParts) → is_int_type p.codes.dtype ≡ true → first_bad (length p.values.rows) (numbers_of p.codes) ≡ None → dict_fault p ≡ None
faultless p h k = rw (h, k) refl

pub dict_fault-slice : (p : DictParts) (codes : Column) (s e : ℕ) → dict_fault p ≡ None → IsSlice p.codes s e codes → dict_fault (dict_with p codes) ≡ None
dict_fault-slice p codes s e h cut =
    faultless (dict_with p codes) (ap is_int_type cut.step.dtype ∙ int-dict p h)
    (ap (first_bad (length p.values.rows)) (numbers_of-slice p.codes s e codes cut) ∙ first_bad-slice (length p.values.rows) (numbers_of p.codes) s e (sound-dict p h))

pub dict_fault-filter : (p : DictParts) (codes : Column) (mask : List Bool) → dict_fault p ≡ None → IsCut p.codes (items_where_true mask p.codes.rows) codes → dict_fault (dict_with p codes) ≡ None
dict_fault-filter p codes mask h cut =
    faultless (dict_with p codes) (ap is_int_type cut.step.dtype ∙ int-dict p h)
    (ap (first_bad (length p.values.rows)) (numbers_of-filter p.codes mask codes cut) ∙ first_bad-filter (length p.values.rows) mask (numbers_of p.codes) (sound-dict p h))

pub dict_fault-take : (p : DictParts) (codes : Column) (picks : List (Option ℕ)) (n : Nullability) → dict_fault p ≡ None → IsTake p.codes picks n codes → dict_fault (dict_with p codes) ≡ None
dict_fault-take p codes picks n h step =
    faultless (dict_with p codes) (ap is_int_type step.dtype ∙ int-dict p h)
    (ap (first_bad (length p.values.rows)) (numbers_of-take p.codes picks n codes step) ∙ first_bad-picks (length p.values.rows) (numbers_of p.codes) picks (sound-dict p h))

pub is_slice-dict : (p : DictParts) (codes : Column) (s e : ℕ) → dict_fault p ≡ None → IsSlice p.codes s e codes → IsSlice (dict_column p) s e (dict_column (dict_with p codes))
is_slice-dict p codes s e h cut =
    let positions = positions_of (numbers_of p.codes) in
    let left : positions_of (numbers_of codes) ≡ slice_range positions s e =
    ap positions_of (numbers_of-slice p.codes s e codes cut) ∙ map-slice_range (option_map position_of) (numbers_of p.codes) s e in
    record {
      step = record {
        rows = ap (at null p.values.rows) left ∙ map-slice_range (item_at null p.values.rows) positions s e;
        dtype = ap (λ (t : TypeTree). also_nullable p.values.dtype t.nullability) cut.step.dtype;
        layout = λ _. refl;
        unwrapped = λ h. h;
        direct = λ h. h;
        form = refl;
      };
      plain = λ h. h;
      depth = omega (arith, cut.depth);
    }

pub is_filter-dict : (p : DictParts) (codes : Column) (mask : List Bool) → dict_fault p ≡ None → IsCut p.codes (items_where_true mask p.codes.rows) codes → IsCut (dict_column p) (items_where_true mask (dict_column p).rows) (dict_column (dict_with p codes))
is_filter-dict p codes mask h cut =
    let positions = positions_of (numbers_of p.codes) in
    let left : positions_of (numbers_of codes) ≡ items_where_true mask positions =
    ap positions_of (numbers_of-filter p.codes mask codes cut) ∙ map-items_where_true (option_map position_of) mask (numbers_of p.codes) in
    record {
      step = record {
        rows = ap (at null p.values.rows) left ∙ map-items_where_true (item_at null p.values.rows) mask positions;
        dtype = ap (λ (t : TypeTree). also_nullable p.values.dtype t.nullability) cut.step.dtype;
        layout = λ _. refl;
        unwrapped = λ h. h;
        direct = λ h. h;
        form = refl;
      };
      plain = λ h. h;
      depth = omega (arith, cut.depth);
    }

pub is_take-dict : (p : DictParts) (codes : Column) (picks : List (Option ℕ)) (n : Nullability) → dict_fault p ≡ None → IsTake p.codes picks n codes → IsTake (dict_column p) picks n (dict_column (dict_with p codes))
is_take-dict p codes picks n h step =
    let positions = positions_of (numbers_of p.codes) in
    let left : positions_of (numbers_of codes) ≡ at None positions picks =
    ap positions_of (numbers_of-take p.codes picks n codes step) ∙ map-at (option_map position_of) None (numbers_of p.codes) picks in
    record {
      rows = ap (at null p.values.rows) left ∙ sym (takes_join null p.values.rows positions picks);
      dtype = ap (λ (t : TypeTree). also_nullable p.values.dtype t.nullability) step.dtype ∙ also_nullable-codes p.values.dtype p.codes.dtype n;
      layout = λ _. refl;
      unwrapped = λ h. h;
      direct = λ h. h;
      form = refl;
    }

-- ---- the unwrapped form

-- the same codes name the same values
pub numbers_of-execute : (c codes : Column) → IsStep c c.rows c.dtype codes → numbers_of codes ≡ numbers_of c
numbers_of-execute c codes step = ap₂ (λ (t : TypeTree) rows. map (number_in t.kind) rows) step.dtype step.rows

-- of codes of the same type, and of values as many, none is bad
pub first_bad-execute : (p : DictParts) (codes values : Column) → IsStep p.codes p.codes.rows p.codes.dtype codes → IsStep p.values p.values.rows p.values.dtype values → dict_fault p ≡ None → first_bad (length values.rows) (numbers_of codes) ≡ None
first_bad-execute p codes values coded valued h =
    ap₂ first_bad (ap length valued.rows) (numbers_of-execute p.codes codes coded) ∙ sound-dict p h

pub execute-dict : (p : DictParts) (codes values a : Column) → IsStep p.codes p.codes.rows p.codes.dtype codes → IsStep p.values p.values.rows p.values.dtype values → IsTake values (positions_of (numbers_of codes)) codes.dtype.nullability a → IsStep (dict_column p) (dict_column p).rows (dict_column p).dtype a
execute-dict p codes values a coded valued taken =
    record {
      rows = taken.rows ∙ ap₂ (at null) valued.rows (ap positions_of (numbers_of-execute p.codes codes coded));
      dtype = taken.dtype ∙ ap₂ also_nullable valued.dtype (ap (λ (t : TypeTree). t.nullability) coded.dtype);
      layout = λ h. let no : false ≡ true = h in cc;
      unwrapped = λ h. let no : false ≡ true = h in cc;
      direct = λ h. let no : true ≡ false = h in cc;
      form = taken.form ∙ valued.form;
    }

-- ---- bits and positions

-- the bits of the values that codes at picks name
pub bits-dict : (p : DictParts) (codes : Column) (picks : List (Option ℕ)) (n : Nullability) → IsTake p.codes picks n codes → at false (map is_yes p.values.rows) (positions_of (numbers_of codes)) ≡ at false (map is_yes (dict_column p).rows) picks
bits-dict p codes picks n step =
    let values = map is_yes p.values.rows in let numbers = numbers_of p.codes in
    ap (λ xs. at false values (positions_of xs)) (numbers_of-take p.codes picks n codes step)
    ∙ ap (at false values) (map-at (option_map position_of) None numbers picks)
    ∙ sym (takes_join false values (positions_of numbers) picks)
    ∙ ap (λ bits. at false bits picks) (sym (map-at is_yes null p.values.rows (positions_of numbers)))

-- where each of the values is a position, each row is
pub sound-values : (p : DictParts) (n : ℕ) → first_bad n (numbers_of p.values) ≡ None → first_bad n (numbers_of (dict_column p)) ≡ None
sound-values p n h =
    let k = p.values.dtype.kind in let picks = positions_of (numbers_of p.codes) in
    ap (first_bad n) (map-at (number_in k) null p.values.rows picks)
    ∙ first_bad-picks n (numbers_of p.values) picks h
