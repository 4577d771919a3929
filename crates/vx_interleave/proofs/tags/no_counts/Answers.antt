-- Each count is 0.
use Rattle.vx_interleave.proofs.CountedTags.{no-counts}
use Rattle.vx_interleave.proofs.tags.no_counts.Goals as goal

pub returns : goal.returns
returns c = no-counts
