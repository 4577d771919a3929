-- The rows of maps, which are those of their entries, and what a step over these leaves of them.
use Rattle.std.proofs.Common.{◌≡◌, Bool, true, false, List, length, None, Some, refl, ap, ◌∙◌}
use Rattle.std.specs.Prelude.{not, if◌then◌else◌}
use Rattle.std.specs.Cmp.{first_so}
use Rattle.vx_types.specs.Nullability.{is_nullable}
use Rattle.vx_types.specs.RowValue.{RowValue}
use Rattle.vx_types.specs.TypeTree.{TypeKind, TypeTree, is_carried, list_kind, null_type, struct_kind, is_entry_kind, is_entry_type}
use Rattle.vx_types.specs.declared.error.ColumnError.TheVariants.{WrongType}
use Rattle.vx_types.specs.declared.nullability.Nullability.{Nullability}
use Rattle.vx_model.specs.List.{list_of}
use Rattle.vx_model.specs.ListView.{ListViewParts, listview_column, listview_fault, listview_spans}
use Rattle.vx_model.specs.Map.{map_column, map_fault, map_of}
use Rattle.vx_model.specs.Step.{IsCut, IsStep}
use Rattle.vx_model.proofs.ListRows.{rows-listview}

pub entries-map : (p : ListViewParts) → map_fault p ≡ None → is_entry_type p.elements.dtype ≡ true
entries-map p h = by (is_entry_type p.elements.dtype) h
  where
    by : (a : Bool) → (if a then None else Some WrongType) ≡ None → a ≡ true
    by true h = refl
    by false h = cc

carried_kind : (k : TypeKind) (m n : Nullability) → is_entry_kind k ≡ true → is_carried (record { kind = k; nullability = m }) ≡ true → is_carried (record { kind = map_of k; nullability = n }) ≡ true
carried_kind (struct_kind names ts) m n h k = rw (h, k) refl
carried_kind k m n h c = cc

-- the type is one that a column may have where the elements' is
pub carried-map : (p : ListViewParts) (n : Nullability) (t : TypeTree) → map_fault p ≡ None → t ≡ record { kind = map_of p.elements.dtype.kind; nullability = n } → is_carried p.elements.dtype ≡ true → is_carried t ≡ true
carried-map p n t h same k =
    let entries = first_so (is_entry_kind p.elements.dtype.kind) (not (is_nullable p.elements.dtype.nullability)) (entries-map p h) in
    ap is_carried same ∙ carried_kind p.elements.dtype.kind p.elements.dtype.nullability n entries k

pub rows-map : (p : ListViewParts) → listview_fault p ≡ None → length (map_column p).rows ≡ length (listview_spans p).spans
rows-map p h = rows-listview p h

-- what a proof about a map's type needs
pub ruleset map_rows = (entries-map, carried-map, rows-map)

-- ---- steps

abbrev elements_in : TypeKind → TypeTree
elements_in (list_kind k n) = record { kind = k; nullability = n }
elements_in k = null_type

-- entries of the same type are those of a map
pub fault-map : (p q : ListViewParts) → map_fault p ≡ None → q.elements.dtype ≡ p.elements.dtype → map_fault q ≡ None
fault-map p q h same = rw (ap is_entry_type same ∙ entries-map p h) refl

-- a step over the entries leaves their type
pub elements-step : (p q : ListViewParts) (left : List RowValue) (n : Nullability) → IsStep (listview_column p) left (record { kind = list_of p.elements.dtype; nullability = n }) (listview_column q) → q.elements.dtype ≡ p.elements.dtype
elements-step p q left n step = ap (λ (t : TypeTree). elements_in t.kind) step.dtype

-- and is one over the rows
pub is_step-map : (p q : ListViewParts) (left : List RowValue) (n : Nullability) → IsStep (listview_column p) left (record { kind = list_of p.elements.dtype; nullability = n }) (listview_column q) → IsStep (map_column p) left (record { kind = map_of p.elements.dtype.kind; nullability = n }) (map_column q)
is_step-map p q left n step =
    record {
      rows = step.rows;
      dtype = λ i. record { kind = map_of (elements-step p q left n step i).kind; nullability = (step.dtype i).nullability };
      layout = λ h. cc;
      unwrapped = λ h. cc;
      direct = λ _. refl;
      form = refl;
    }

pub is_cut-map : (p q : ListViewParts) (left : List RowValue) → IsCut (listview_column p) left (listview_column q) → IsCut (map_column p) left (map_column q)
is_cut-map p q left cut =
    record {
      step = is_step-map p q left (listview_column p).dtype.nullability cut.step;
      plain = λ h. cc;
      depth = cut.depth;
    }
