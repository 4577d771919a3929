-- By the test of the members.
use Rattle.std.proofs.Common.{sym, refl, ◌∙◌}
use Rattle.vx_column_json.specs.Union.{offsets_stated}
use Rattle.vx_column_json.proofs.union_.offsets_stated.Goals as goal

pub returns-in_ok-offsets_of_rows : goal.returns-in_ok-offsets_of_rows
unfolding offsets_stated
returns-in_ok-offsets_of_rows c =
    rw (sym c.is_closed.ensures ∙ c.if-is_closed.false, sym c.is_closed-else-is_closed.ensures ∙ c.if-is_closed-2.true, c.in_ok-offsets_of_rows.ensures) refl

pub returns-else-is_closed-2 : goal.returns-else-is_closed-2
unfolding offsets_stated
returns-else-is_closed-2 c =
    rw (sym c.is_closed.ensures ∙ c.if-is_closed.false, sym c.is_closed-else-is_closed.ensures ∙ c.if-is_closed-2.false) refl
