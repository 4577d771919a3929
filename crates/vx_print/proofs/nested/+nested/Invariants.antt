-- What a walk over a row counts down: how deep the column that it reads nests.
use Rattle.std.proofs.Common.{◌≡◌, ◌+◌, ◌*◌, ◌++◌, map, slice_range, take}
use Rattle.vx_types.specs.Fields.{names_of}
use Rattle.vx_model.specs.Columns.{columns_depth}
use Rattle.vx_column.specs.Cell.{cell_depth}
use Rattle.vx_print.specs.Fields.{texts_at}
use Rattle.vx_print.specs.Text.{comma_list, with_labels, name_label, row_text}
use Rattle.vx_print.proofs.nested.+nested.Given as goal

-- the rows from the first one on stand behind what was there
abbrev pub invariant-push_elements-loop-i : goal.invariant-push_elements-loop-i
invariant-push_elements-loop-i l =
    l.text.items ≡ l.initial.text.items ++ comma_list (map (row_text l.column.dtype) (slice_range l.column.rows l.start l.i))

-- the first k fields stand behind what was there
abbrev pub invariant-push_fields-loop-k : goal.invariant-push_fields-loop-k
invariant-push_fields-loop-k l =
    l.text.items ≡ l.initial.text.items ++ comma_list (take l.k (with_labels (map name_label (names_of l.names)) (texts_at l.columns l.i)))

abbrev pub decreases-push_elements : goal.decreases-push_elements
decreases-push_elements l = 4 * l.column.now.depth + 1

abbrev pub decreases-push_list : goal.decreases-push_list
decreases-push_list l = 4 * l.elements.now.depth + 2

abbrev pub decreases-push_list_at : goal.decreases-push_list_at
decreases-push_list_at l = 4 * l.lists.now.elements.depth + 3

abbrev pub decreases-push_at : goal.decreases-push_at
decreases-push_at l = 4 * l.column.now.depth

abbrev pub decreases-push_fields : goal.decreases-push_fields
decreases-push_fields l = 4 * columns_depth l.columns.now + 1

abbrev pub decreases-push_struct : goal.decreases-push_struct
decreases-push_struct l = 4 * columns_depth l.fields.columns.now + 2

abbrev pub decreases-push_tagged : goal.decreases-push_tagged
decreases-push_tagged l = 4 * l.tagged.column.now.depth + 1

abbrev pub decreases-push_row : goal.decreases-push_row
decreases-push_row l = 4 * cell_depth l.row + 3
