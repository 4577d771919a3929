-- How the depth of a value goes down, and what the loop over columns keeps.
use Rattle.std.proofs.Common.{◌≡◌, ◌+◌, ◌*◌, vec_len, length}
use Rattle.std.specs.Vec.{vec_capacity}
use Rattle.serde_json.specs.Data.{depth, items_depth}
use Rattle.serde_json.specs.View.{view, items_view}
use Rattle.vx_json.proofs.Reading.{IsReading}
use Rattle.vx_document.specs.Columns.{column_of, each_column}
use Rattle.vx_document.proofs.columns.+columns.Given as goal

abbrev pub decreases-filter_in : goal.decreases-filter_in
decreases-filter_in l = 5 * depth (view l.value.now) + 1

abbrev pub decreases-column_member : goal.decreases-column_member
decreases-column_member l = 5 * depth (view l.value.now)

abbrev pub decreases-each_column : goal.decreases-each_column
decreases-each_column l = 5 * items_depth (items_view l.items.now.items) + 5

abbrev pub decreases-lists_in : goal.decreases-lists_in
decreases-lists_in l = 5 * depth (view l.value.now) + 2

abbrev pub decreases-dict_in : goal.decreases-dict_in
decreases-dict_in l = 5 * depth (view l.value.now) + 1

abbrev pub decreases-column_of : goal.decreases-column_of
decreases-column_of l = 5 * depth (view l.value.now) + 4

abbrev pub decreases-columns_member : goal.decreases-columns_member
decreases-columns_member l = 5 * depth (view l.value.now)

abbrev pub decreases-extension_in : goal.decreases-extension_in
decreases-extension_in l = 5 * depth (view l.value.now) + 1

abbrev pub decreases-union_in : goal.decreases-union_in
decreases-union_in l = 5 * depth (view l.value.now) + 1

abbrev pub decreases-map_in : goal.decreases-map_in
decreases-map_in l = 5 * depth (view l.value.now) + 1

abbrev pub decreases-by_layout : goal.decreases-by_layout
decreases-by_layout l = 5 * depth (view l.value.now) + 3

abbrev pub decreases-struct_in : goal.decreases-struct_in
decreases-struct_in l = 5 * depth (view l.value.now) + 2

abbrev pub decreases-validity_stated : goal.decreases-validity_stated
decreases-validity_stated l = 5 * depth (view l.value.now) + 1

abbrev pub decreases-validity_from : goal.decreases-validity_from
decreases-validity_from l = 5 * depth (view l.value.now) + 5

-- what the items so far mean is read, and there is room for the rest
abbrev pub invariant-each_column-loop-item : goal.invariant-each_column-loop-item
invariant-each_column-loop-item l = record {
  reading : IsReading column_of l.items.items l.item-index l.columns.items (each_column (items_view l.items.items));
  len : vec_len l.columns ≡ l.item-index;
  room : vec_capacity l.columns ≡ length l.items.items;
}
