-- Layout `FixedSizeList`: lists of one size, one after another.
use Rattle.std.specs.Prelude.{ℕ, zero, suc, ◌+◌, ◌*◌, ◌==◌, length, List, [], ◌∷◌, Option, Some, None, if◌then◌else◌, refl}
use Rattle.std.specs.Coded.{Coded, code_by, coded×, coded_ℕ}
use Rattle.vx_types.specs.TypeTree.{TypeKind, TypeTree, fixed_kind}
use Rattle.vx_types.specs.declared.layout_name.LayoutName.TheVariants.{FixedSizeList as FixedLayout}
use Rattle.vx_types.specs.declared.error.ColumnError.{ColumnError}
use Rattle.vx_types.specs.declared.error.ColumnError.TheVariants.{WrongLength, BadValidity}
use Rattle.vx_model.specs.Column.{Column}
use Rattle.vx_model.specs.ColumnCode.{coded_column}
use Rattle.vx_model.specs.Lists.{ListsParts, lists_column}
use Rattle.vx_model.specs.Valid.{Valid, is_fitting}
use Rattle.vx_model.specs.ValidCode.{coded_valid}

-- what a contract sees of a `FixedSizeListArray`
pub record FixedParts : Type 0 where
  pub elements : Column
  -- elements of a row
  pub size : ℕ
  -- rows
  pub len : ℕ
  pub valid : Valid

-- the kind of lists of so many such elements
abbrev pub fixed_of : TypeTree → ℕ → TypeKind
fixed_of t size = fixed_kind t.kind t.nullability size

-- why they are no column, the first that holds
abbrev pub fixed_fault : FixedParts → Option ColumnError
fixed_fault p =
    if length p.elements.rows == p.size * p.len then
    (if is_fitting p.valid p.len then None else Some BadValidity)
    else Some WrongLength

-- `len` spans of one size, the first of which begins at `start`
abbrev pub runs_from : ℕ → ℕ → ℕ → List (ℕ × ℕ)
runs_from start size zero = []
runs_from start size (suc len) = (start, start + size) ∷ runs_from (start + size) size len

-- the elements of a row are as many as the size, behind those of the row before
abbrev pub fixed_spans : FixedParts → ListsParts
fixed_spans p =
    record {
      layout = FixedLayout;
      kind = fixed_of p.elements.dtype p.size;
      elements = p.elements;
      spans = runs_from 0 p.size p.len;
      valid = p.valid;
    }

abbrev pub fixed_column : FixedParts → Column
fixed_column p = lists_column (fixed_spans p)

abbrev pub coded_fixed : Coded FixedParts
coded_fixed =
    code_by ((Column × ℕ) × (ℕ × Valid))
    (coded× (coded× coded_column coded_ℕ) (coded× coded_ℕ coded_valid))
    (λ p. ((p.elements, p.size), (p.len, p.valid)))
    (λ f. record { elements = f.0.0; size = f.0.1; len = f.1.0; valid = f.1.1 })
    (λ _. refl)
