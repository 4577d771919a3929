-- By the test of the members.
use Rattle.std.proofs.Common.{sym, ◌∙◌}
use Rattle.vx_document.specs.Chunks.{decimals_by}
use Rattle.vx_document.proofs.chunks.decimals_by.Goals as goal

pub returns-then-is_closed-clause-value : goal.returns-then-is_closed-clause-value
unfolding decimals_by
returns-then-is_closed-clause-value c =
    rw (sym c.is_closed.ensures ∙ c.if-is_closed.true) c.decimals_listed.ensures.value

pub returns-else-is_closed-clause-value : goal.returns-else-is_closed-clause-value
unfolding decimals_by
returns-else-is_closed-clause-value c = rw (sym c.is_closed.ensures ∙ c.if-is_closed.false)
