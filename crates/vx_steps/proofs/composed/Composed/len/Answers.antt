-- The length of a range.
use Rattle.std.proofs.Common.{ap, sym}
use Rattle.vx_steps.specs.Compose.{picks_in}
use Rattle.vx_steps.proofs.ComposedPicks.{length_in}
use Rattle.vx_steps.proofs.composed.Composed.len.Goals as goal

pub returns-in-Range : goal.returns-in-Range
returns-in-Range c =
    let s = c.in-Range.span in
    sym (length_in (picks_in c.args.self.now) s.start s.end (ap picks_in c.in-Range.is))
