-- Rows in rows.
use Rattle.std.proofs.Common.{◌≡◌, ℕ, Bool, true, false, List, [], ◌∷◌, ◌++◌, ◌∙◌, Some, map, get_or, refl, ap}
use Rattle.std.specs.Prelude.{◌==◌, codes, decimal, if◌then◌else◌}
use Rattle.vx_types.specs.RowValue.{RowValue, null, row_values, tagged}
use Rattle.vx_types.specs.TypeTree.{TypeKind, TypeTree, TypeTrees, types_of, list_kind, fixed_kind, map_kind, struct_kind, union_kind, extension_kind, more_types, no_types}
use Rattle.vx_model.specs.Column.{Column}
use Rattle.vx_model.specs.Columns.{types_in}
use Rattle.vx_model.specs.Extension.{storage_kind}
use Rattle.vx_model.specs.Lists.{elements_type, list_row}
use Rattle.vx_model.specs.Struct.{fields_row}
use Rattle.vx_column.specs.Cell.{field_types as types_told, type_by_id, variant_type}
use Rattle.vx_print.specs.Fields.{texts_at}
use Rattle.vx_print.specs.Text.{comma_list, with_labels, name_label, field_names, field_texts, field_types, item_kind, item_texts, kind_by_id, row_text, row_text_as, variant_kind}

item_texts-map : (k : TypeKind) (xs : List RowValue) → item_texts k (row_values xs) ≡ map (row_text_as k) xs
item_texts-map k [] = refl
item_texts-map k (x ∷ xs) = ap (λ l. row_text_as k x ∷ l) (item_texts-map k xs)

-- an extension's elements are its storage's
item_kind-elements : (k : TypeKind) (t : TypeTree) → elements_type (storage_kind k) ≡ Some t → item_kind k ≡ t.kind
item_kind-elements (list_kind k n) t h = cc
item_kind-elements (fixed_kind k n size) t h = cc
item_kind-elements (map_kind names ts) t h = cc
item_kind-elements (extension_kind name k) t h = item_kind-elements k t h
item_kind-elements k t h = cc

-- the text of a list of these elements
pub list_text : (t : TypeTree) (e : TypeTree) (xs : List RowValue) → elements_type (storage_kind t.kind) ≡ Some e → row_text t (list_row xs) ≡ codes "[" ++ comma_list (map (row_text e) xs) ++ codes "]"
list_text t e xs h =
    ap (λ k. codes "[" ++ comma_list (item_texts k (row_values xs)) ++ codes "]") (item_kind-elements t.kind e h)
    ∙ ap (λ l. codes "[" ++ comma_list l ++ codes "]") (item_texts-map e.kind xs)

field_texts-at : (cs : List Column) (i : ℕ) → field_texts (types_of (types_in cs)) (row_values (map (λ (c : Column). get_or c.rows i null) cs)) ≡ texts_at cs i
field_texts-at [] i = refl
field_texts-at (c ∷ cs) i = ap (λ l. row_text c.dtype (get_or c.rows i null) ∷ l) (field_texts-at cs i)

-- an extension's fields are its storage's
field_types-told : (k : TypeKind) (ts : TypeTrees) → types_told (storage_kind k) ≡ Some ts → field_types k ≡ ts
field_types-told (struct_kind names us) ts h = cc
field_types-told (extension_kind name k) ts h = field_types-told k ts h
field_types-told k ts h = cc

-- the text of a struct of these fields
pub fields_text : (t : TypeTree) (cs : List Column) (i : ℕ) → types_told (storage_kind t.kind) ≡ Some (types_of (types_in cs)) → row_text t (fields_row (map (λ (c : Column). get_or c.rows i null) cs)) ≡ codes "{" ++ comma_list (with_labels (map name_label (field_names t.kind)) (texts_at cs i)) ++ codes "}"
fields_text t cs i h =
    ap (λ l. codes "{" ++ comma_list (with_labels (map name_label (field_names t.kind)) l) ++ codes "}")
    (ap (λ ts. field_texts ts (row_values (map (λ (c : Column). get_or c.rows i null) cs))) (field_types-told t.kind (types_of (types_in cs)) h) ∙ field_texts-at cs i)

kind_by_id-told : (ids : List ℕ) (ts : TypeTrees) (id : ℕ) (t : TypeTree) → type_by_id ids ts id ≡ Some t → kind_by_id ids ts id ≡ t.kind
kind_by_id-told [] ts id t h = cc
kind_by_id-told (v ∷ ids) no_types id t h = cc
kind_by_id-told (v ∷ ids) (more_types k n ts) id t h = by (v == id) (λ e. kind_by_id-told ids ts id t e) h
  where
    by : (b : Bool) → (type_by_id ids ts id ≡ Some t → kind_by_id ids ts id ≡ t.kind) → (if b then Some (let u : TypeTree = record { kind = k; nullability = n } in u) else type_by_id ids ts id) ≡ Some t → (if b then k else kind_by_id ids ts id) ≡ t.kind
    by true f e = cc
    by false f e = f e

-- an extension's variants are its storage's
variant_kind-told : (k : TypeKind) (id : ℕ) (t : TypeTree) → variant_type (storage_kind k) id ≡ Some t → variant_kind k id ≡ t.kind
variant_kind-told (union_kind ids names ts) id t h = kind_by_id-told ids ts id t h
variant_kind-told (extension_kind name k) id t h = variant_kind-told k id t h
variant_kind-told k id t h = cc

-- the text of a row of this variant
pub variant_text : (t v : TypeTree) (id : ℕ) (x : RowValue) → variant_type (storage_kind t.kind) id ≡ Some v → row_text t (tagged id x) ≡ decimal id ++ codes ":" ++ row_text v x
variant_text t v id x h =
    ap (λ k. decimal id ++ codes ":" ++ row_text_as k x) (variant_kind-told t.kind id v h)

pub ruleset element_rows = (list_text, variant_text)
