-- By the test of the members.
use Rattle.std.proofs.Common.{sym, ◌∙◌}
use Rattle.vx_column_json.specs.ListView.{listview_array}
use Rattle.vx_column_json.proofs.listview.listview_array.Goals as goal

pub returns-then-is_closed : goal.returns-then-is_closed
unfolding listview_array
returns-then-is_closed c = rw (sym c.is_closed.ensures ∙ c.if-is_closed.true) c.listview_by_offsets.ensures

pub returns-else-is_closed : goal.returns-else-is_closed
unfolding listview_array
returns-else-is_closed c = rw (sym c.is_closed.ensures ∙ c.if-is_closed.false)
