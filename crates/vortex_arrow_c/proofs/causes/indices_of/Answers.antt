-- One range more.
use Rattle.vortex_arrow_c.proofs.RangeLens.{lens_more}
use Rattle.vortex_arrow_c.proofs.causes.indices_of.Goals as goal

pub loop-i-preserved : goal.loop-i-preserved
loop-i-preserved c =
    lens_more c.args.step.now.lengths.now c.args.step.now.offset c.loop-i.i c.loop-i.sum c.wide_at.result c.saturating_add-sum.result c.loop-i.invariant c.wide_at.ensures c.saturating_add-sum.ensures
