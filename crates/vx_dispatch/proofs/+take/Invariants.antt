-- How deep the column nests.
use Rattle.std.proofs.Common.{◌+◌}
use Rattle.std.specs.Prelude.{max}
use Rattle.vx_model.specs.Valid.{valid_size}
use Rattle.vx_model.specs.Dict.{dict_size}
use Rattle.vx_model.specs.Filter.{filter_size}
use Rattle.vx_plain.specs.Stored.{parts_of}
use Rattle.vx_column.specs.Validity.{valid_of}
use Rattle.std.proofs.Common.{take}
use Rattle.vx_types.specs.RowValue.{null}
use Rattle.vx_take.specs.Picks.{at}
use Rattle.vx_model.specs.Columns.{AreSteps}
use Rattle.vx_model.specs.Columns.{columns_depth}
use Rattle.vx_model.specs.Extension.{extension_size}
use Rattle.vx_model.specs.Union.{union_size}
use Rattle.vx_dispatch.proofs.+take.Given as goal

abbrev pub decreases-extension::ExtensionArrayTakeRows::take : goal.decreases-extension::ExtensionArrayTakeRows::take
decreases-extension::ExtensionArrayTakeRows::take l = extension_size l.self.now

abbrev pub decreases-map::MapArrayTakeRows::take : goal.decreases-map::MapArrayTakeRows::take
decreases-map::MapArrayTakeRows::take l = valid_size l.self.now.valid + 2

abbrev pub decreases-listview::take_views : goal.decreases-listview::take_views
decreases-listview::take_views l = valid_size l.array.now.valid + 1

abbrev pub decreases-dict::DictArrayTakeBits::bits : goal.decreases-dict::DictArrayTakeBits::bits
decreases-dict::DictArrayTakeBits::bits l = dict_size l.self.now

abbrev pub decreases-dict::DictArrayTakeRows::take : goal.decreases-dict::DictArrayTakeRows::take
decreases-dict::DictArrayTakeRows::take l = dict_size l.self.now

abbrev pub decreases-filter_layout::FilterArrayTakeBits::bits : goal.decreases-filter_layout::FilterArrayTakeBits::bits
decreases-filter_layout::FilterArrayTakeBits::bits l = filter_size l.self.now

abbrev pub decreases-filter_layout::FilterArrayTakeRows::take : goal.decreases-filter_layout::FilterArrayTakeRows::take
decreases-filter_layout::FilterArrayTakeRows::take l = filter_size l.self.now

abbrev pub decreases-stored::StoredTakeRows::take : goal.decreases-stored::StoredTakeRows::take
decreases-stored::StoredTakeRows::take l = valid_size (parts_of l.self.now).valid + 1

abbrev pub decreases-taking::take_picks : goal.decreases-taking::take_picks
decreases-taking::take_picks l = l.array.now.depth

abbrev pub decreases-validity::take_validity : goal.decreases-validity::take_validity
decreases-validity::take_validity l = valid_size (valid_of l.validity.now)

abbrev pub decreases-validity::taken_bits : goal.decreases-validity::taken_bits
decreases-validity::taken_bits l = l.array.now.depth

abbrev pub decreases-list::take_lists : goal.decreases-list::take_lists
decreases-list::take_lists l = max l.array.now.elements.depth (valid_size l.array.now.valid) + 2

abbrev pub decreases-list::ListArrayTakeRows::take : goal.decreases-list::ListArrayTakeRows::take
decreases-list::ListArrayTakeRows::take l = max l.self.now.elements.depth (valid_size l.self.now.valid) + 3

abbrev pub decreases-listview::ListViewArrayTakeRows::take : goal.decreases-listview::ListViewArrayTakeRows::take
decreases-listview::ListViewArrayTakeRows::take l = valid_size l.self.now.valid + 2

-- `take_runs` calls `take_picks` on the same column
abbrev pub decreases-runs::take_runs : goal.decreases-runs::take_runs
decreases-runs::take_runs l = l.array.now.depth + 1

abbrev pub decreases-fixed_size_list::FixedSizeListArrayTakeRows::take : goal.decreases-fixed_size_list::FixedSizeListArrayTakeRows::take
decreases-fixed_size_list::FixedSizeListArrayTakeRows::take l =
    max l.self.now.elements.depth (valid_size l.self.now.valid) + 2

abbrev pub decreases-struct_::StructArrayTakeRows::take : goal.decreases-struct_::StructArrayTakeRows::take
decreases-struct_::StructArrayTakeRows::take l = max (columns_depth l.self.now.columns) (valid_size l.self.now.valid) + 2

abbrev pub decreases-columns::take_each : goal.decreases-columns::take_each
decreases-columns::take_each l = columns_depth l.columns.now

-- what is made so far are the first columns' steps
abbrev pub invariant-columns::take_each-loop-column : goal.invariant-columns::take_each-loop-column
invariant-columns::take_each-loop-column l =
    AreSteps (λ rows. at null rows l.picks.picks) (take l.column-index l.columns) l.taken.items

abbrev pub decreases-union_::take_variants : goal.decreases-union_::take_variants
decreases-union_::take_variants l = union_size l.array.now

abbrev pub decreases-union_::take_sparse : goal.decreases-union_::take_sparse
decreases-union_::take_sparse l = max l.array.now.ids.depth (columns_depth l.array.now.columns) + 1
