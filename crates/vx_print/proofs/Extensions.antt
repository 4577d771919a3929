-- The text of an extension's rows is that of its storage's.
use Rattle.std.proofs.Common.{◌≡◌, ℕ, List, None, refl, sym, ap, ◌∙◌}
use Rattle.vx_types.specs.RowValue.{RowValue, null, bit, bytes, list, fields, tagged}
use Rattle.vx_types.specs.TypeTree.{TypeKind, extension_kind}
use Rattle.vx_model.specs.Extension.{ExtensionParts, extension_dtype, extension_fault}
use Rattle.vx_model.proofs.ExtensionSteps.{kind-extension}
use Rattle.vx_print.specs.Text.{row_text, row_text_as}

-- whatever the row is
extension_text : (name : List ℕ) (k : TypeKind) (x : RowValue) → row_text_as k x ≡ row_text_as (extension_kind name k) x
extension_text name k null = refl
extension_text name k (bit b) = refl
extension_text name k (bytes b) = refl
extension_text name k (list xs) = refl
extension_text name k (fields xs) = refl
extension_text name k (tagged id x) = refl

pub storage_text : (p : ExtensionParts) → extension_fault p ≡ None → row_text p.storage.dtype ≡ row_text (extension_dtype p)
storage_text p h =
    let k = p.ext.storage.kind in
    let all : row_text_as k ≡ row_text_as (extension_kind p.ext.name k) = λ i x. extension_text p.ext.name k x i in
    sym (ap row_text_as (kind-extension p h)) ∙ all

pub ruleset extensions = (storage_text)
