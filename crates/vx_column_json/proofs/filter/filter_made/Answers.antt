-- The constructor's answer.
use Rattle.std.proofs.Common.{sym}
use Rattle.vx_column_json.proofs.Filters.{gives_filter, same_mask}
use Rattle.vx_column_json.proofs.filter.filter_made.Goals as goal

pub returns-clause-column : goal.returns-clause-column
returns-clause-column c =
    gives_filter c.args.child c.in_ok-into_ref.field-0 c.args.mask c.made.result c.in_ok-into_ref.ensures (rw c.try_new.ensures at c.made.ensures)

pub returns-clause-mask : goal.returns-clause-mask
returns-clause-mask c = same_mask _ c.made.result (rw c.try_new.ensures at c.made.ensures)
