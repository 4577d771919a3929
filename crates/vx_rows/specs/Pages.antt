-- Pages: a column of structs as a table of its fields, and one page of the rows that steps leave.
use Rattle.std.specs.Prelude.{ℕ, List, length, true, false, Bool, ◌&&◌, not, if◌then◌else◌, Option}
use Rattle.std.specs.Prelude.{None, Some}
use Rattle.vx_types.specs.Nullability.{is_nullable}
use Rattle.vx_types.specs.RowValue.{RowValues, null, fields, none, more}
use Rattle.vx_types.specs.TypeTree.{TypeKind, TypeTree, TypeTrees, no_types, more_types}
use Rattle.vx_types.specs.TypeTree.{struct_kind}
use Rattle.vx_types.specs.declared.layout_name.LayoutName.{LayoutName}
use Rattle.vx_types.specs.declared.layout_name.LayoutName.TheVariants.{Struct}
use Rattle.vx_types.specs.declared.nullability.Nullability.TheVariants.{NonNullable}
use Rattle.vx_take.specs.Picks.{at}
use Rattle.vx_model.specs.Column.{Column}
use Rattle.vx_steps.specs.Answer.{Answer, answer_fault, answer_rows, type_after}
use Rattle.vx_steps.specs.Step.{StepValue}
use Rattle.vx_steps.specs.Walk.{Walk, walk_fault, walk_picks, walk}
use Rattle.vx_table.specs.Page.{cut}
use Rattle.vx_document.specs.Documents.{SourceValue, column_source, chunks_source}
use Rattle.vx_print.specs.Text.{field_names, field_types}

-- ---- tables

abbrev pub is_struct_layout : LayoutName → Bool
is_struct_layout Struct = true
is_struct_layout l = false

-- columns side by side, and by their type no row is null
abbrev pub is_table : Column → Bool
is_table c = is_struct_layout c.layout && not (is_nullable c.dtype.nullability)

-- ---- the page of a table

-- each type after the steps
abbrev pub types_after : List StepValue → TypeTrees → TypeTrees
types_after steps no_types = no_types
types_after steps (more_types k n ts) =
    let t = type_after (record { kind = k; nullability = n }) steps in
    more_types t.kind t.nullability (types_after steps ts)

-- structs of the same names, none of them null, and each field of its type after the steps
abbrev pub page_type : TypeKind → List StepValue → TypeTree
page_type k steps =
    record {
      kind = struct_kind (field_names k) (types_after steps (field_types k));
      nullability = NonNullable;
    }

-- a null for each field
abbrev pub nulls_for : TypeTrees → RowValues
nulls_for no_types = none
nulls_for (more_types k n ts) = more null (nulls_for ts)

-- the row at each pick of the page, and at a null pick a struct of nulls
abbrev pub page_by_walk : ℕ → ℕ → Column → List StepValue → Walk → Answer
page_by_walk number len c steps (walk_fault k cause) = answer_fault k cause
page_by_walk number len c steps (walk_picks picks) =
    answer_rows (page_type c.dtype.kind steps)
    (at (fields (nulls_for (field_types c.dtype.kind))) c.rows (cut number len picks))

-- page number `number` of the rows that the steps leave, where each page has `len` rows
abbrev pub page_answer : ℕ → ℕ → Column → List StepValue → Answer
page_answer number len c steps = page_by_walk number len c steps (walk (length c.rows) steps)

-- page number `number` of the rows that the steps leave of a source, where that is a table
abbrev pub page_of : ℕ → ℕ → SourceValue → List StepValue → Option Answer
page_of number len (column_source c) steps =
    if is_table c then Some (page_answer number len c steps) else None
page_of number len (chunks_source s values) steps = None
