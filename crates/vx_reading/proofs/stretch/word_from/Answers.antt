-- The word of a slice.
use Rattle.std.proofs.Common.{ap, ◌∙◌}
use Rattle.vx_bits.specs.Words.{word_at}
use Rattle.vx_reading.proofs.Stretches.{word-from}
use Rattle.vx_reading.proofs.stretch.word_from.Goals as goal

pub returns : goal.returns
returns c =
    c.word.ensures ∙ ap (λ l. word_at l 0) c.slice.ensures.bits ∙ word-from c.args.bits.now.bits c.args.start c.args.len c.requires.few
