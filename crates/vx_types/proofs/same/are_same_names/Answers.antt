use Rattle.std.proofs.Common.{◌∙◌}
use Rattle.vx_types.proofs.Alike.{names_apart}
use Rattle.vx_types.proofs.same.are_same_names.Goals as goal

pub returns : goal.returns
returns c = c.eq.ensures ∙ names_apart c.args.xs.now c.args.ys.now
