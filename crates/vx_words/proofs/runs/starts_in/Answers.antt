use Rattle.vx_words.proofs.RunStarts.{starts_is}
use Rattle.vx_words.proofs.runs.starts_in.Goals as goal

pub returns : goal.returns
returns c = starts_is c.args.word c.args.before c.marks_in.result c.ranges.word.fits c.ranges.before.fits c.marks_in.ensures
