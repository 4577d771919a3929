-- The piece has these rows.
use Rattle.std.proofs.Common.{arith}
use Rattle.vx_shorthand.proofs.Ramps.{names_rows}
use Rattle.vx_shorthand.proofs.steps.take_every.Goals as goal

pub returns : goal.returns
returns c =
    names_rows c.in_ok-starts.starts c.in_ok-lengths.lengths c.in_ok-multipliers.multipliers c.args.n c.args.len c.div_ceil-count.result c.new_unchecked-pieces.result c.requires (omega arith) (omega arith) c.div_ceil-count.ensures c.in_ok-starts.ensures.number c.in_ok-lengths.ensures.number c.in_ok-multipliers.ensures.number c.new_unchecked-pieces.ensures
