-- Which rows are valid, and which are null.
use Rattle.std.specs.Prelude.{◌≡◌, ℕ, ◌+◌, ◌≤◌, ◌==◌, ◌&&◌, ◌||◌, length, List, [], ◌∷◌, map, replicate, Bool, true, false, not, slice_index_or, if◌then◌else◌}
use Rattle.vx_types.specs.RowValue.{RowValue, null, bit}
use Rattle.vx_types.specs.TypeTree.{TypeTree, is_bool_kind}
use Rattle.vx_types.specs.Nullability.{is_nullable}
use Rattle.vx_types.specs.declared.layout_name.LayoutName.{LayoutName}
use Rattle.vx_types.specs.declared.layout_name.LayoutName.TheVariants.{Bool as BoolLayout}
use Rattle.vx_types.specs.declared.nullability.Nullability.{Nullability}
use Rattle.vx_types.specs.declared.nullability.Nullability.TheVariants.{NonNullable, Nullable}
use Rattle.vx_model.specs.Column.{Column, Cover, constant_form, by_bools, by_other}

-- what a contract sees of a validity: a constant form, or a column of bits
pub data Valid : Type 0 where
  non_nullable : Valid
  all_valid : Valid
  all_invalid : Valid
  by_column : Column → Valid

abbrev pub is_yes : RowValue → Bool
is_yes (bit b) = b
is_yes x = false

-- for each of n rows whether it is valid
abbrev pub present_bits : Valid → ℕ → List Bool
present_bits non_nullable n = replicate n true
present_bits all_valid n = replicate n true
present_bits all_invalid n = replicate n false
present_bits (by_column c) n = map is_yes c.rows

-- row i is valid
abbrev pub is_present : Valid → ℕ → Bool
is_present non_nullable i = true
is_present all_valid i = true
is_present all_invalid i = false
is_present (by_column c) i = is_yes (slice_index_or c.rows i null)

-- the valid rows, and null in place of each other one
abbrev pub shown_rows : List Bool → List RowValue → List RowValue
shown_rows [] rows = []
shown_rows (b ∷ bits) [] = []
shown_rows (b ∷ bits) (x ∷ rows) = (if b then x else null) ∷ shown_rows bits rows

-- the stored rows, and null in place of each that isn't there
abbrev pub stored_rows : Valid → List RowValue → List RowValue
stored_rows v items = shown_rows (present_bits v (length items)) items

-- the nullability of the type of a column with this validity
abbrev pub nullability_by : Valid → Nullability
nullability_by non_nullable = NonNullable
nullability_by all_valid = Nullable
nullability_by all_invalid = Nullable
nullability_by (by_column c) = Nullable

abbrev pub is_bool_layout : LayoutName → Bool
is_bool_layout BoolLayout = true
is_bool_layout t = false

-- how it is stored
abbrev pub cover_by : Valid → Cover
cover_by non_nullable = constant_form
cover_by all_valid = constant_form
cover_by all_invalid = constant_form
cover_by (by_column c) = if is_bool_layout c.layout then by_bools else by_other

abbrev pub is_non_null_bool : TypeTree → Bool
is_non_null_bool t = is_bool_kind t.kind && not (is_nullable t.nullability)

-- a validity array is a non-nullable bool column as long as the n rows
abbrev pub is_fitting : Valid → ℕ → Bool
is_fitting non_nullable n = true
is_fitting all_valid n = true
is_fitting all_invalid n = true
is_fitting (by_column c) n = is_non_null_bool c.dtype && (length c.rows == n)

-- how deep it nests
abbrev pub valid_size : Valid → ℕ
valid_size non_nullable = 0
valid_size all_valid = 0
valid_size all_invalid = 0
valid_size (by_column c) = c.depth + 1

-- it is stored as one answer for all rows
abbrev pub is_constant_form : Cover → Bool
is_constant_form constant_form = true
is_constant_form c = false

abbrev pub is_bools : Cover → Bool
is_bools by_bools = true
is_bools c = false

-- a step keeps a validity that is one answer for all rows, or an array of layout `Bool`, and nests
-- it no deeper
pub record IsAsPlain (before after : Valid) : Type 0 where
  pub constant : is_constant_form (cover_by before) ≡ true
      → is_constant_form (cover_by after) ≡ true
  pub depth : valid_size after ≤ valid_size before

-- it is one answer for all rows, or an array of layout `Bool`
abbrev pub is_flat_cover : Cover → Bool
is_flat_cover c = is_constant_form c || is_bools c

-- these bits are what a step leaves of a validity, and rows may be null where n says so
pub record IsLeft (before : Valid) (n : Nullability) (left : List Bool) (after : Valid)
    : Type 0 where
  pub bits : present_bits after (length left) ≡ left
  pub fitting : is_fitting after (length left) ≡ true
  pub nullability : nullability_by after ≡ n
  pub flat : is_flat_cover (cover_by before) ≡ true → is_flat_cover (cover_by after) ≡ true
