-- The second span's rows stand behind the first one's.
use Rattle.std.proofs.Common.{arith}
use Rattle.vx_arrow_interleave.proofs.SpanItems.{joined_spots}
use Rattle.vx_arrow_interleave.proofs.spans.merged.Goals as goal

pub returns : goal.returns
returns c =
    let a = c.args.first in
    let b = c.args.second in
    joined_spots a b _ (omega (arith, c.if-first-second.false)) (omega (arith, c.if-branch-second.false, c.in_ok-checked_add.ensures)) (omega (arith, c.in_ok-checked_add-2.ensures))
