-- By the test of the members.
use Rattle.std.proofs.Common.{refl, sym, ◌∙◌}
use Rattle.vx_column_json.specs.VarBinView.{views_array}
use Rattle.vx_column_json.proofs.varbinview.views_array.Goals as goal

pub returns-else-is_closed-2 : goal.returns-else-is_closed-2
unfolding views_array
returns-else-is_closed-2 c =
    rw (c.in_ok-text_member.ensures.value, c.in_ok-kind.ensures.value, sym c.is_closed.ensures ∙ c.if-is_closed.false, sym c.is_closed-else-is_closed.ensures ∙ c.if-is_closed-2.false) refl

pub returns-then-is_closed-2 : goal.returns-then-is_closed-2
unfolding views_array
returns-then-is_closed-2 c =
    rw (c.in_ok-text_member.ensures.value, c.in_ok-kind.ensures.value, sym c.is_closed.ensures ∙ c.if-is_closed.false, sym c.is_closed-else-is_closed.ensures ∙ c.if-is_closed-2.true) c.views_by_buffers.ensures
