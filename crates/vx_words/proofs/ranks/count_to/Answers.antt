use Rattle.std.proofs.Common.{◌≡◌, ◌+◌, ◌*◌, ◌/◌, take, ap, ◌∙◌, arith}
use Rattle.vx_bits.specs.BitBuffer.{true_count_of}
use Rattle.vx_filter.specs.Compact.{bits_of_words}
use Rattle.vx_mask.proofs.BlockCounts.{count_fits}
use Rattle.vx_mask.proofs.WordCounts.{count_before, count_of_word}
use Rattle.vx_words.proofs.MaskRows.{word_of_words}
use Rattle.vx_words.proofs.ranks.count_to.Goals as goal

pub overflow_add-count : goal.overflow_add-count
overflow_add-count c =
    let bits = bits_of_words c.args.words.now in
    let w = c.loop-w.w in
    let more = count_of_word bits w _ (word_of_words c.args.words.now w (omega arith) (omega arith)) in
    omega (arith, more, count_fits bits (64 * (w + 1)), c.loop-w.invariant)

pub loop-w-preserved : goal.loop-w-preserved
loop-w-preserved c =
    let bits = bits_of_words c.args.words.now in
    let w = c.loop-w.w in
    omega (arith, count_of_word bits w _ (word_of_words c.args.words.now w (omega arith) (omega arith)), c.loop-w.invariant)

pub overflow_add-count-then-p-gt0 : goal.overflow_add-count-then-p-gt0
overflow_add-count-then-p-gt0 c =
    let words = c.args.words.now in
    let bits = bits_of_words words in
    let p = c.args.p in
    let at : c.loop-w.w ≡ p / 64 = omega arith in
    let counted = c.loop-w.invariant ∙ ap (λ n. true_count_of (take (64 * n) bits)) at in
    let all = count_before bits p _ (word_of_words words (p / 64) (omega arith) (omega arith)) in
    omega (arith, counted, all, count_fits bits p)

pub returns-then-p-gt0 : goal.returns-then-p-gt0
returns-then-p-gt0 c =
    let words = c.args.words.now in
    let bits = bits_of_words words in
    let p = c.args.p in
    let at : c.loop-w.w ≡ p / 64 = omega arith in
    let counted = c.loop-w.invariant ∙ ap (λ n. true_count_of (take (64 * n) bits)) at in
    omega (arith, counted, count_before bits p _ (word_of_words words (p / 64) (omega arith) (omega arith)))
