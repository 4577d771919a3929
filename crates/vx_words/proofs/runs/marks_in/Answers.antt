use Rattle.vx_words.proofs.RunStarts.{marks_is}
use Rattle.vx_words.proofs.runs.marks_in.Goals as goal

pub returns : goal.returns
returns c = marks_is c.args.word c.args.before c.ranges.word.fits c.ranges.before.fits
