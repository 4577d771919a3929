-- So many bytes lie between the offsets.
use Rattle.std.proofs.Common.{ap₂, ◌-◌, ◌∙◌}
use Rattle.vx_model.proofs.Items.{length-slice_range}
use Rattle.vx_text.proofs.text_run.TextRun.bytes.Goals as goal

pub returns-clause-len : goal.returns-clause-len
returns-clause-len g c =
    length-slice_range c.args.self.bytes.now c.bounds-start.result.0 c.bounds-start.result.1 c.bounds-start.ensures.ordered c.bounds-start.ensures.within
    ∙ ap₂ ◌-◌ c.bounds-start.ensures.end c.bounds-start.ensures.start
