-- How deep the column nests; `filter` calls `filter_values` on the same column.
use Rattle.std.proofs.Common.{◌+◌, ◌*◌}
use Rattle.std.specs.Prelude.{max}
use Rattle.vx_model.specs.Valid.{valid_size}
use Rattle.vx_model.specs.Dict.{dict_size}
use Rattle.vx_model.specs.Filter.{filter_size}
use Rattle.vx_plain.specs.Stored.{parts_of}
use Rattle.vx_column.specs.Validity.{valid_of}
use Rattle.std.proofs.Common.{take}
use Rattle.std.specs.List.{items_where_true}
use Rattle.vx_mask.specs.Mask.{mask_bits}
use Rattle.vx_model.specs.Columns.{AreCuts}
use Rattle.vx_model.specs.Columns.{columns_depth}
use Rattle.vx_model.specs.Extension.{extension_size}
use Rattle.vx_dispatch.proofs.+filter.Given as goal

abbrev pub decreases-dict::DictArrayFilterRows::filter : goal.decreases-dict::DictArrayFilterRows::filter
decreases-dict::DictArrayFilterRows::filter l = 2 * dict_size l.self.now

abbrev pub decreases-filter_layout::FilterArrayFilterRows::filter : goal.decreases-filter_layout::FilterArrayFilterRows::filter
decreases-filter_layout::FilterArrayFilterRows::filter l = 2 * filter_size l.self.now

abbrev pub decreases-filtering::filter : goal.decreases-filtering::filter
decreases-filtering::filter l = 2 * l.array.now.depth + 1

abbrev pub decreases-filtering::filter_values : goal.decreases-filtering::filter_values
decreases-filtering::filter_values l = 2 * l.array.now.depth

abbrev pub decreases-stored::StoredFilterRows::filter : goal.decreases-stored::StoredFilterRows::filter
decreases-stored::StoredFilterRows::filter l = 2 * (valid_size (parts_of l.self.now).valid + 1)

abbrev pub decreases-validity::filter_validity : goal.decreases-validity::filter_validity
decreases-validity::filter_validity l = 2 * valid_size (valid_of l.validity.now)

abbrev pub decreases-fixed_size_list::FixedSizeListArrayFilterRows::filter : goal.decreases-fixed_size_list::FixedSizeListArrayFilterRows::filter
decreases-fixed_size_list::FixedSizeListArrayFilterRows::filter l =
    2 * (max l.self.now.elements.depth (valid_size l.self.now.valid) + 2)

abbrev pub decreases-list::ListArrayFilterRows::filter : goal.decreases-list::ListArrayFilterRows::filter
decreases-list::ListArrayFilterRows::filter l =
    2 * (max l.self.now.elements.depth (valid_size l.self.now.valid) + 2)

abbrev pub decreases-listview::ListViewArrayFilterRows::filter : goal.decreases-listview::ListViewArrayFilterRows::filter
decreases-listview::ListViewArrayFilterRows::filter l = 2 * (valid_size l.self.now.valid + 2)

abbrev pub decreases-listview::filter_views : goal.decreases-listview::filter_views
decreases-listview::filter_views l = 2 * (valid_size l.array.now.valid + 1)

abbrev pub decreases-map::MapArrayFilterRows::filter : goal.decreases-map::MapArrayFilterRows::filter
decreases-map::MapArrayFilterRows::filter l = 2 * (valid_size l.self.now.valid + 2)

abbrev pub decreases-extension::ExtensionArrayFilterRows::filter : goal.decreases-extension::ExtensionArrayFilterRows::filter
decreases-extension::ExtensionArrayFilterRows::filter l = 2 * (extension_size l.self.now)

abbrev pub decreases-struct_::StructArrayFilterRows::filter : goal.decreases-struct_::StructArrayFilterRows::filter
decreases-struct_::StructArrayFilterRows::filter l = 2 * (max (columns_depth l.self.now.columns) (valid_size l.self.now.valid) + 2)

abbrev pub decreases-struct_::filter_fields : goal.decreases-struct_::filter_fields
decreases-struct_::filter_fields l = 2 * (max (columns_depth l.array.now.columns) (valid_size l.array.now.valid) + 1)

abbrev pub decreases-columns::filter_each : goal.decreases-columns::filter_each
decreases-columns::filter_each l = 2 * (columns_depth l.columns.now)

-- what is made so far are the first columns' steps
abbrev pub invariant-columns::filter_each-loop-column : goal.invariant-columns::filter_each-loop-column
invariant-columns::filter_each-loop-column l =
    AreCuts (items_where_true (mask_bits l.mask)) (take l.column-index l.columns) l.cut.items

abbrev pub decreases-union_::filter_variants : goal.decreases-union_::filter_variants
decreases-union_::filter_variants l = 2 * (max l.array.now.ids.depth (columns_depth l.array.now.columns) + 1) + 1

abbrev pub decreases-union_::filter_sparse : goal.decreases-union_::filter_sparse
decreases-union_::filter_sparse l = 2 * (max l.array.now.ids.depth (columns_depth l.array.now.columns) + 1)
