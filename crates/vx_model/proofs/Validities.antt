-- What a step leaves of a validity that is a column.
use Rattle.std.proofs.Common.{◌≡◌, ℕ, ◌-◌, ◌≤◌, Bool, true, false, ◌&&◌, List, map, length, slice_range, refl, sym, ap, ◌∙◌, arith}
use Rattle.std.specs.Prelude.{◌==◌, if◌then◌else◌, ◌&&◌}
use Rattle.std.specs.List.{items_where_true}
use Rattle.std.proofs.lemmas.List.{length-map}
use Rattle.std.proofs.lemmas.Bool.Decides.{nat_tests}
use Rattle.vx_types.specs.RowValue.{RowValue}
use Rattle.vx_types.specs.TypeTree.{TypeTree}
use Rattle.vx_types.specs.declared.layout_name.LayoutName.{LayoutName}
use Rattle.vx_types.specs.declared.layout_name.LayoutName.TheVariants as layouts
use Rattle.vx_model.specs.Column.{Column, by_bools, by_other}
use Rattle.vx_model.specs.Plain.{is_in_place}
use Rattle.vx_model.specs.Valid.{by_column, is_yes, is_fitting, is_non_null_bool, is_constant_form, is_flat_cover, is_bool_layout, cover_by, nullability_by, present_bits, IsLeft, Valid}
use Rattle.vx_model.specs.Step.{IsStep, IsCut, IsSlice}
use Rattle.vx_model.proofs.Items.{map-items_where_true, map-slice_range, length-slice_range}
use Rattle.vx_model.proofs.ShownRows.{length-present_bits}
use Rattle.vx_mask.proofs.RankedItems.{length-items_where_true}

-- a column is no constant form
not_constant : (b : Bool) → is_constant_form (if b then by_bools else by_other) ≡ true → false ≡ true
not_constant true h = h
not_constant false h = h

pub constant-by_column : (c : Column) → is_constant_form (cover_by (by_column c)) ≡ true → false ≡ true
constant-by_column c h = not_constant (is_bool_layout c.layout) h

flat_bools : (b : Bool) → is_flat_cover (if b then by_bools else by_other) ≡ b
flat_bools true = refl
flat_bools false = refl

bool_in_place : (l : LayoutName) → is_bool_layout l ≡ true → is_in_place l ≡ true
bool_in_place layouts.Null h = cc
bool_in_place layouts.Bool h = refl
bool_in_place layouts.Primitive h = cc
bool_in_place layouts.Decimal h = cc
bool_in_place layouts.VarBin h = cc
bool_in_place layouts.VarBinView h = cc
bool_in_place layouts.List h = cc
bool_in_place layouts.ListView h = cc
bool_in_place layouts.FixedSizeList h = cc
bool_in_place layouts.Map h = cc
bool_in_place layouts.Struct h = cc
bool_in_place layouts.Union h = cc
bool_in_place layouts.Extension h = cc
bool_in_place layouts.Constant h = cc
bool_in_place layouts.Dict h = cc
bool_in_place layouts.Filter h = cc

-- a column whose rows, type and layout are what a step leaves
pub flat-by_column : (c d : Column) (left : List RowValue) (t : TypeTree) → IsStep c left t d → is_flat_cover (cover_by (by_column c)) ≡ true → is_flat_cover (cover_by (by_column d)) ≡ true
flat-by_column c d left t step h =
    let bools : is_bool_layout c.layout ≡ true = sym (flat_bools (is_bool_layout c.layout)) ∙ h in
    let same = step.layout (bool_in_place c.layout bools) in
    flat_bools (is_bool_layout d.layout) ∙ ap is_bool_layout same ∙ bools

-- it fits as many rows as are left
pub is_fitting-step : (c d : Column) (left : List RowValue) (n m : ℕ) → IsStep c left c.dtype d → is_fitting (by_column c) n ≡ true → length left ≡ m → is_fitting (by_column d) m ≡ true
is_fitting-step c d left n m step h long =
    let kind : is_non_null_bool d.dtype ≡ true = ap is_non_null_bool step.dtype ∙ first (is_non_null_bool c.dtype) (length c.rows == n) h in
    let count : length d.rows ≡ m = ap length step.rows ∙ long in
    grind (arith, nat_tests)
  where
    first : (a b : Bool) → (a && b) ≡ true → a ≡ true
    first true b h = refl
    first false b h = h

count-by_column : (c : Column) (n : ℕ) → is_fitting (by_column c) n ≡ true → length c.rows ≡ n
count-by_column c n h = grind (arith, nat_tests)

-- over a slice
pub is_left-slice-by_column : (c d : Column) (n s e : ℕ) → is_fitting (by_column c) n ≡ true → s ≤ e → e ≤ n → IsSlice c s e d → IsLeft (by_column c) (nullability_by (by_column c)) (slice_range (present_bits (by_column c) n) s e) (by_column d)
is_left-slice-by_column c d n s e f h l cut =
    let count = count-by_column c n f in
    let bits = map is_yes c.rows in
    let long : length (slice_range bits s e) ≡ e - s = length-slice_range bits s e h (omega (arith, length-map c.rows is_yes, count)) in
    let rows : length (slice_range c.rows s e) ≡ e - s = length-slice_range c.rows s e h (omega (arith, count)) in
    record {
      bits = ap (map is_yes) cut.step.rows ∙ map-slice_range is_yes c.rows s e;
      fitting = is_fitting-step c d (slice_range c.rows s e) n _ cut.step f (rows ∙ sym long);
      nullability = refl;
      flat = flat-by_column c d _ _ cut.step;
    }

-- over what a filter keeps
pub is_left-filter-by_column : (c d : Column) (mask : List Bool) → is_fitting (by_column c) (length mask) ≡ true → IsCut c (items_where_true mask c.rows) d → IsLeft (by_column c) (nullability_by (by_column c)) (items_where_true mask (present_bits (by_column c) (length mask))) (by_column d)
is_left-filter-by_column c d mask f cut =
    let count = count-by_column c (length mask) f in
    let bits = map is_yes c.rows in
    let long = length-items_where_true mask bits (sym (length-map c.rows is_yes ∙ count)) in
    let rows = length-items_where_true mask c.rows (sym count) in
    record {
      bits = ap (map is_yes) cut.step.rows ∙ map-items_where_true is_yes mask c.rows;
      fitting = is_fitting-step c d (items_where_true mask c.rows) (length mask) _ cut.step f (rows ∙ sym long);
      nullability = refl;
      flat = flat-by_column c d _ _ cut.step;
    }

-- ---- validities that are unwrapped

-- a validity as it is
pub is_left-same : (v : Valid) (n : ℕ) → is_fitting v n ≡ true → IsLeft v (nullability_by v) (present_bits v n) v
is_left-same v n f =
    let long = length-present_bits v n f in
    record {
      bits = ap (present_bits v) long;
      fitting = ap (is_fitting v) long ∙ f;
      nullability = refl;
      flat = λ h. h;
    }

flat_bool : (c : Column) → is_bool_layout c.layout ≡ true → is_flat_cover (cover_by (by_column c)) ≡ true
flat_bool c h = rw h refl

pub flat-bools : (c : Column) → is_bool_layout c.layout ≡ true → is_flat_cover (cover_by (by_column c)) ≡ true
flat-bools c h = flat_bool c h

kind_of : (c : Column) (n : ℕ) → is_fitting (by_column c) n ≡ true → is_non_null_bool c.dtype ≡ true
kind_of c n h = first (is_non_null_bool c.dtype) (length c.rows == n) h
  where
    first : (a b : Bool) → (a && b) ≡ true → a ≡ true
    first true b h = refl
    first false b h = cc

-- a validity array is one of bools
pub bools-fitting : (c : Column) (n : ℕ) → is_fitting (by_column c) n ≡ true → is_non_null_bool c.dtype ≡ true
bools-fitting c n h = kind_of c n h

-- a column of the same rows and type in its place
pub is_left-execute : (c d : Column) (n : ℕ) → is_fitting (by_column c) n ≡ true → IsStep c c.rows c.dtype d → is_bool_layout d.layout ≡ true → IsLeft (by_column c) (nullability_by (by_column c)) (present_bits (by_column c) n) (by_column d)
is_left-execute c d n f step bools =
    let long = length-present_bits (by_column c) n f in
    let count : length c.rows ≡ n = sym (length-map c.rows is_yes) ∙ long in
    record {
      bits = ap (map is_yes) step.rows;
      fitting = is_fitting-step c d c.rows n _ step f (count ∙ sym long);
      nullability = refl;
      flat = λ _. flat_bool d bools;
    }

-- what a proof about an unwrapped validity needs
pub ruleset executed = (is_left-same, is_left-execute, flat-bools, bools-fitting)
