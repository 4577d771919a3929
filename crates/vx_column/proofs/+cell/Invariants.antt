-- What a walk to a cell counts down: how deep what is left nests.
use Rattle.std.proofs.Common.{◌+◌}
use Rattle.std.specs.Prelude.{max}
use Rattle.vx_model.specs.Dict.{dict_size}
use Rattle.vx_model.specs.Filter.{filter_size}
use Rattle.vx_model.specs.Valid.{valid_size}
use Rattle.vx_model.specs.Columns.{columns_depth}
use Rattle.vx_model.specs.Extension.{extension_size}
use Rattle.vx_model.specs.Union.{union_size}
use Rattle.vx_column.specs.Lists.{spans_of}
use Rattle.vx_column.specs.Validity.{valid_of}
use Rattle.vx_column.proofs.+cell.Given as goal

abbrev pub decreases-array::Array::cell_at : goal.decreases-array::Array::cell_at
decreases-array::Array::cell_at l = l.self.now.depth

abbrev pub decreases-boolean::BoolArrayReadRow::cell_at : goal.decreases-boolean::BoolArrayReadRow::cell_at
decreases-boolean::BoolArrayReadRow::cell_at l = valid_size l.self.now.valid + 1

abbrev pub decreases-dict::DictArrayReadRow::cell_at : goal.decreases-dict::DictArrayReadRow::cell_at
decreases-dict::DictArrayReadRow::cell_at l = dict_size l.self.now

abbrev pub decreases-filter::FilterArrayReadRow::cell_at : goal.decreases-filter::FilterArrayReadRow::cell_at
decreases-filter::FilterArrayReadRow::cell_at l = filter_size l.self.now

abbrev pub decreases-lists::Lists::cell_at : goal.decreases-lists::Lists::cell_at
decreases-lists::Lists::cell_at l =
    max (spans_of l.self).elements.depth (valid_size (spans_of l.self).valid) + 2

abbrev pub decreases-records::RecordArrayReadRow::cell_at : goal.decreases-records::RecordArrayReadRow::cell_at
decreases-records::RecordArrayReadRow::cell_at l = valid_size l.self.now.valid + 1

abbrev pub decreases-validity::Validity::is_valid_at :
    goal.decreases-validity::Validity::is_valid_at
decreases-validity::Validity::is_valid_at l = valid_size (valid_of l.self.now)

abbrev pub decreases-varbin::VarBinArrayReadRow::cell_at : goal.decreases-varbin::VarBinArrayReadRow::cell_at
decreases-varbin::VarBinArrayReadRow::cell_at l = valid_size l.self.now.valid + 1

abbrev pub decreases-varbinview::VarBinViewArrayReadRow::cell_at :
    goal.decreases-varbinview::VarBinViewArrayReadRow::cell_at
decreases-varbinview::VarBinViewArrayReadRow::cell_at l = valid_size l.self.now.valid + 1

abbrev pub decreases-struct_::StructArrayReadRow::cell_at : goal.decreases-struct_::StructArrayReadRow::cell_at
decreases-struct_::StructArrayReadRow::cell_at l =
    max (columns_depth l.self.now.columns) (valid_size l.self.now.valid) + 2

abbrev pub decreases-extension::ExtensionArrayReadRow::cell_at :
    goal.decreases-extension::ExtensionArrayReadRow::cell_at
decreases-extension::ExtensionArrayReadRow::cell_at l = extension_size l.self.now

abbrev pub decreases-union_::UnionArrayReadRow::cell_at : goal.decreases-union_::UnionArrayReadRow::cell_at
decreases-union_::UnionArrayReadRow::cell_at l = union_size l.self.now

abbrev pub decreases-union_check::tag_at : goal.decreases-union_check::tag_at
decreases-union_check::tag_at l = l.type_ids.now.depth + 1
