-- By the test of the members.
use Rattle.std.proofs.Common.{sym, ◌∙◌}
use Rattle.vx_column_json.specs.Decimal.{decimal_by}
use Rattle.vx_column_json.proofs.decimal.decimal_by.Goals as goal

pub returns-then-is_closed : goal.returns-then-is_closed
unfolding decimal_by
returns-then-is_closed c = rw (sym c.is_closed.ensures ∙ c.if-is_closed.true) c.decimal_by_values.ensures

pub returns-else-is_closed : goal.returns-else-is_closed
unfolding decimal_by
returns-else-is_closed c = rw (sym c.is_closed.ensures ∙ c.if-is_closed.false)
