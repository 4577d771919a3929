-- The multipliers are a constant 1.
use Rattle.std.proofs.Common.{rules, ◌≡◌, true}
use Rattle.vx_pieces.proofs.sequence.PiecewiseSequence.contiguous_runs.Goals as goal

pub runs-requires : goal.runs-requires
runs-requires c =
    let one : c.is_constant_one.result ≡ true = search rules in
    c.is_constant_one.ensures.ones one
