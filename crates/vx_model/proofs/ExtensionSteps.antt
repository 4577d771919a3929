-- The rows of extensions, and what a step over the storage leaves of them.
use Rattle.std.proofs.Common.{◌≡◌, Bool, true, false, List, None, Some, refl, sym, ap, ◌∙◌, arith}
use Rattle.std.specs.Prelude.{if◌then◌else◌}
use Rattle.vx_types.specs.Same.{is_same_kind}
use Rattle.vx_types.specs.SameLaws.{kind_decides}
use Rattle.vx_types.specs.TypeTree.{TypeKind, TypeTree, is_carried, is_carried_as}
use Rattle.vx_types.specs.RowValue.{RowValue}
use Rattle.vx_types.specs.declared.error.ColumnError.TheVariants.{WrongType}
use Rattle.vx_model.specs.Column.{Column}
use Rattle.vx_model.specs.Extension.{ExtensionParts, extension_column, extension_dtype, extension_fault, extension_with}
use Rattle.vx_model.specs.Step.{IsCut, IsStep}

-- the storage is of the kind that the extension says
pub kind-extension : (p : ExtensionParts) → extension_fault p ≡ None → p.ext.storage.kind ≡ p.storage.dtype.kind
kind-extension p h = (kind_decides p.ext.storage.kind p.storage.dtype.kind).0 (by (is_same_kind p.ext.storage.kind p.storage.dtype.kind) h)
  where
    by : (a : Bool) → (if a then None else Some WrongType) ≡ None → a ≡ true
    by true h = refl
    by false h = cc

-- the type is one that a column may have where the storage's is
pub carried-extension : (p : ExtensionParts) → extension_fault p ≡ None → is_carried p.storage.dtype ≡ true → is_carried (extension_dtype p) ≡ true
carried-extension p h k = ap (λ (x : TypeKind). is_carried_as x p.storage.dtype.nullability) (kind-extension p h) ∙ k

-- what a proof about an extension's type needs
pub ruleset extension_rows = (kind-extension, carried-extension)

-- a storage of the same kind is one of the extension
pub fault-extension : (p : ExtensionParts) (a : Column) → extension_fault p ≡ None → a.dtype.kind ≡ p.storage.dtype.kind → extension_fault (extension_with p a) ≡ None
fault-extension p a h same =
    let alike : is_same_kind p.ext.storage.kind a.dtype.kind ≡ true =
    (kind_decides p.ext.storage.kind a.dtype.kind).1 (kind-extension p h ∙ sym same) in
    rw alike refl

-- a step over the storage is one over the rows
pub is_step-extension : (p : ExtensionParts) (a : Column) (left : List RowValue) (t : TypeTree) → IsStep p.storage left t a → IsStep (extension_column p) left (record { kind = (extension_dtype p).kind; nullability = t.nullability }) (extension_column (extension_with p a))
is_step-extension p a left t step =
    record {
      rows = step.rows;
      dtype = ap (λ (x : TypeTree). let u : TypeTree = record { kind = (extension_dtype p).kind; nullability = x.nullability } in u) step.dtype;
      layout = λ _. refl;
      unwrapped = λ h. h;
      direct = λ h. h;
      form = step.form;
    }

pub is_cut-extension : (p : ExtensionParts) (a : Column) (left : List RowValue) → IsCut p.storage left a → IsCut (extension_column p) left (extension_column (extension_with p a))
is_cut-extension p a left cut =
    record {
      step = is_step-extension p a left p.storage.dtype cut.step;
      plain = λ h. h;
      depth = omega (arith, cut.depth);
    }
