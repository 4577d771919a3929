-- How deep the column nests.
use Rattle.std.proofs.Common.{◌+◌}
use Rattle.std.specs.Prelude.{max}
use Rattle.vx_column.specs.Lists.{spans_of}
use Rattle.vx_model.specs.Valid.{valid_size}
use Rattle.vx_model.specs.Dict.{dict_size}
use Rattle.vx_model.specs.Filter.{filter_size}
use Rattle.vx_plain.specs.Stored.{parts_of}
use Rattle.vx_column.specs.Validity.{valid_of}
use Rattle.std.proofs.Common.{take}
use Rattle.vx_model.specs.Columns.{AreSteps}
use Rattle.vx_model.specs.Columns.{columns_depth}
use Rattle.vx_model.specs.Extension.{extension_size}
use Rattle.vx_model.specs.Union.{union_size}
use Rattle.vx_dispatch.proofs.+execute.Given as goal

abbrev pub decreases-dict::DictArrayExecuteRows::execute : goal.decreases-dict::DictArrayExecuteRows::execute
decreases-dict::DictArrayExecuteRows::execute l = dict_size l.self.now

abbrev pub decreases-dict::execute_values : goal.decreases-dict::execute_values
decreases-dict::execute_values l = dict_size l.array.now

abbrev pub decreases-executing::execute : goal.decreases-executing::execute
decreases-executing::execute l = l.array.now.depth

abbrev pub decreases-filter_layout::FilterArrayExecuteRows::execute : goal.decreases-filter_layout::FilterArrayExecuteRows::execute
decreases-filter_layout::FilterArrayExecuteRows::execute l = filter_size l.self.now

abbrev pub decreases-stored::StoredExecuteRows::execute : goal.decreases-stored::StoredExecuteRows::execute
decreases-stored::StoredExecuteRows::execute l = valid_size (parts_of l.self.now).valid + 1

abbrev pub decreases-validity::execute_validity : goal.decreases-validity::execute_validity
decreases-validity::execute_validity l = valid_size (valid_of l.validity.now)

abbrev pub decreases-lists::ListsExecuteRows::execute : goal.decreases-lists::ListsExecuteRows::execute
decreases-lists::ListsExecuteRows::execute l =
    max (spans_of l.self.now).elements.depth (valid_size (spans_of l.self.now).valid) + 2

abbrev pub decreases-extension::ExtensionArrayExecuteRows::execute : goal.decreases-extension::ExtensionArrayExecuteRows::execute
decreases-extension::ExtensionArrayExecuteRows::execute l = extension_size l.self.now

abbrev pub decreases-struct_::StructArrayExecuteRows::execute : goal.decreases-struct_::StructArrayExecuteRows::execute
decreases-struct_::StructArrayExecuteRows::execute l = max (columns_depth l.self.now.columns) (valid_size l.self.now.valid) + 2

abbrev pub decreases-columns::execute_each : goal.decreases-columns::execute_each
decreases-columns::execute_each l = columns_depth l.columns.now + 1

-- what is made so far are the first columns' steps
abbrev pub invariant-columns::execute_each-loop-column : goal.invariant-columns::execute_each-loop-column
invariant-columns::execute_each-loop-column l =
    AreSteps (λ rows. rows) (take l.column-index l.columns) l.executed.items

-- `execute_elements` calls `execute` on the same column
abbrev pub decreases-lists::execute_elements : goal.decreases-lists::execute_elements
decreases-lists::execute_elements l = l.elements.now.depth + 1

abbrev pub decreases-union_::UnionArrayExecuteRows::execute : goal.decreases-union_::UnionArrayExecuteRows::execute
decreases-union_::UnionArrayExecuteRows::execute l = union_size l.self.now
