-- How deep the column nests.
use Rattle.std.proofs.Common.{◌+◌}
use Rattle.std.specs.Prelude.{max}
use Rattle.vx_model.specs.Valid.{valid_size}
use Rattle.vx_model.specs.Dict.{dict_size}
use Rattle.vx_model.specs.Filter.{filter_size}
use Rattle.vx_plain.specs.Stored.{parts_of}
use Rattle.vx_column.specs.Validity.{valid_of}
use Rattle.std.proofs.Common.{take, slice_range}
use Rattle.vx_model.specs.Columns.{AreCuts}
use Rattle.vx_model.specs.Columns.{columns_depth}
use Rattle.vx_model.specs.Extension.{extension_size}
use Rattle.vx_model.specs.Union.{union_size}
use Rattle.vx_dispatch.proofs.+slice.Given as goal

abbrev pub decreases-dict::DictArraySliceRows::slice : goal.decreases-dict::DictArraySliceRows::slice
decreases-dict::DictArraySliceRows::slice l = dict_size l.self.now

abbrev pub decreases-filter_layout::FilterArraySliceRows::slice : goal.decreases-filter_layout::FilterArraySliceRows::slice
decreases-filter_layout::FilterArraySliceRows::slice l = filter_size l.self.now

abbrev pub decreases-slicing::slice : goal.decreases-slicing::slice
decreases-slicing::slice l = l.array.now.depth

abbrev pub decreases-stored::StoredSliceRows::slice : goal.decreases-stored::StoredSliceRows::slice
decreases-stored::StoredSliceRows::slice l = valid_size (parts_of l.self.now).valid + 1

abbrev pub decreases-validity::slice_validity : goal.decreases-validity::slice_validity
decreases-validity::slice_validity l = valid_size (valid_of l.validity.now)

abbrev pub decreases-fixed_size_list::FixedSizeListArraySliceRows::slice : goal.decreases-fixed_size_list::FixedSizeListArraySliceRows::slice
decreases-fixed_size_list::FixedSizeListArraySliceRows::slice l = max l.self.now.elements.depth (valid_size l.self.now.valid) + 2

abbrev pub decreases-list::ListArraySliceRows::slice : goal.decreases-list::ListArraySliceRows::slice
decreases-list::ListArraySliceRows::slice l = valid_size l.self.now.valid + 1

abbrev pub decreases-listview::ListViewArraySliceRows::slice : goal.decreases-listview::ListViewArraySliceRows::slice
decreases-listview::ListViewArraySliceRows::slice l = valid_size l.self.now.valid + 2

abbrev pub decreases-listview::slice_views : goal.decreases-listview::slice_views
decreases-listview::slice_views l = valid_size l.array.now.valid + 1

abbrev pub decreases-map::MapArraySliceRows::slice : goal.decreases-map::MapArraySliceRows::slice
decreases-map::MapArraySliceRows::slice l = valid_size l.self.now.valid + 2

abbrev pub decreases-extension::ExtensionArraySliceRows::slice : goal.decreases-extension::ExtensionArraySliceRows::slice
decreases-extension::ExtensionArraySliceRows::slice l = extension_size l.self.now

abbrev pub decreases-struct_::StructArraySliceRows::slice : goal.decreases-struct_::StructArraySliceRows::slice
decreases-struct_::StructArraySliceRows::slice l = max (columns_depth l.self.now.columns) (valid_size l.self.now.valid) + 2

abbrev pub decreases-columns::slice_each : goal.decreases-columns::slice_each
decreases-columns::slice_each l = columns_depth l.columns.now

-- what is made so far are the first columns' steps
abbrev pub invariant-columns::slice_each-loop-column : goal.invariant-columns::slice_each-loop-column
invariant-columns::slice_each-loop-column l =
    AreCuts (λ rows. slice_range rows l.start l.end) (take l.column-index l.columns) l.cut.items

abbrev pub decreases-union_::slice_variants : goal.decreases-union_::slice_variants
decreases-union_::slice_variants l = union_size l.array.now
