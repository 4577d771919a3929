-- By the test of the members.
use Rattle.std.proofs.Common.{refl, sym, ◌∙◌}
use Rattle.vx_column_json.specs.VarBin.{varbin_array}
use Rattle.vx_column_json.proofs.varbin.varbin_array.Goals as goal

pub returns-then-is_closed-2 : goal.returns-then-is_closed-2
unfolding varbin_array
returns-then-is_closed-2 c =
    rw (c.in_ok-text_member.ensures.value, c.in_ok-kind.ensures.value, sym c.is_closed.ensures ∙ c.if-is_closed.false, sym c.is_closed-else-is_closed.ensures ∙ c.if-is_closed-2.true) c.varbin_by_offsets.ensures

pub returns-else-is_closed-2 : goal.returns-else-is_closed-2
unfolding varbin_array
returns-else-is_closed-2 c =
    rw (c.in_ok-text_member.ensures.value, c.in_ok-kind.ensures.value, sym c.is_closed.ensures ∙ c.if-is_closed.false, sym c.is_closed-else-is_closed.ensures ∙ c.if-is_closed-2.false) refl
