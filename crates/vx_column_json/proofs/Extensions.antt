-- An extension of its storage's type.
use Rattle.std.proofs.Common.{◌≡◌, ℕ, List, Ok, refl}
use Rattle.vx_bits.specs.Results.{ok_unless}
use Rattle.vx_types.specs.FieldTypes.{ExtensionType}
use Rattle.vx_types.specs.SameLaws.{kind_decides}
use Rattle.vx_types.specs.TypeTree.{TypeTree, with_nullability}
use Rattle.vx_types.specs.declared.nullability.Nullability.TheVariants.{NonNullable}
use Rattle.vx_model.specs.Column.{Column}
use Rattle.vx_model.specs.Extension.{extension_fault}
use Rattle.vx_column_json.specs.Extension.{extension_parts}

parts-sound : (name : List ℕ) (s : Column) → ok_unless (extension_fault (extension_parts name s)) (extension_parts name s) ≡ Ok (extension_parts name s)
parts-sound name s = rw ((kind_decides s.dtype.kind s.dtype.kind).1 refl) refl

-- a column's type is that of its storage
pub is_sound : (ext : ExtensionType) (a s : Column) (n name : List ℕ) (t : TypeTree) → ext ≡ record { name = n; storage = with_nullability t NonNullable } → n ≡ name → t ≡ s.dtype → a ≡ s → ok_unless (extension_fault (record { ext = ext; storage = a })) (record { ext = ext; storage = a }) ≡ Ok (extension_parts name s)
is_sound ext a s n name t e l k same = rw (e, l, k, same) (parts-sound name s)
