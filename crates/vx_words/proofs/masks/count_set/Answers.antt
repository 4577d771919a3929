use Rattle.std.proofs.Common.{ap, ◌∙◌, arith}
use Rattle.std.proofs.lemmas.List.{take_all}
use Rattle.vx_words.specs.Masks.{count_of}
use Rattle.vx_words.proofs.MaskWords.{count_more, room_for_word}
use Rattle.vx_words.proofs.masks.count_set.Goals as goal

pub overflow_add-count : goal.overflow_add-count
overflow_add-count c =
    omega (arith, c.loop-word.invariant, c.requires, room_for_word c.args.words.now c.loop-word.word-index (omega arith) (omega arith))

pub loop-word-preserved : goal.loop-word-preserved
loop-word-preserved c =
    omega (arith, c.loop-word.invariant, count_more c.args.words.now c.loop-word.word-index (omega arith) (omega arith))

pub returns : goal.returns
returns c = c.loop-word.invariant ∙ ap count_of (take_all c.loop-word.word-index c.args.words.now (omega arith))
