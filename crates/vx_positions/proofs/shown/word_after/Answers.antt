-- The next bit stands in the same word.
use Rattle.std.proofs.Common.{ap, ◌∙◌, arith}
use Rattle.vx_bits.specs.Words.{word_at}
use Rattle.vx_positions.proofs.shown.word_after.Goals as goal

pub returns-else-next-eq0 : goal.returns-else-next-eq0
returns-else-next-eq0 c = c.requires.word ∙ ap (word_at c.args.words.now) (omega arith)
