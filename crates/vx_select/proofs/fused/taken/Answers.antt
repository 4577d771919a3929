-- A take leaves a flat type flat.
use Rattle.std.proofs.Common.{ap, ◌∙◌}
use Rattle.vx_types.specs.TypeTree.{is_flat}
use Rattle.vx_select.proofs.fused.taken.Goals as goal

pub returns-clause-unwrapped : goal.returns-clause-unwrapped
returns-clause-unwrapped c = λ flat.
    c.execute.ensures.unwrapped (ap is_flat c.in_ok-rows.ensures.taken.dtype ∙ flat)
