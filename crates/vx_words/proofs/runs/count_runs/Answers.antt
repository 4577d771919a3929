use Rattle.std.proofs.Common.{◌+◌, false, get_or, take, refl, ap, ◌∙◌, arith}
use Rattle.std.proofs.lemmas.List.{take_all}
use Rattle.vx_bits.specs.BitBuffer.{true_count_of}
use Rattle.vx_bits.proofs.WordBits.{true_count_of-word_bits}
use Rattle.vx_filter.specs.Compact.{bits_of_words}
use Rattle.vx_words.specs.Runs.{starts}
use Rattle.vx_words.proofs.MaskWords.{count_below, is_mask}
use Rattle.vx_words.proofs.RunStarts.{all_counted, few_starts, further}
use Rattle.vx_words.proofs.runs.count_runs.Goals as goal
use Rattle.vx_filter.proofs.Copies.{bits_more}

pub loop-w-init : goal.loop-w-init
loop-w-init c = record { count = refl; last = refl }

pub overflow_add-count : goal.overflow_add-count
overflow_add-count c =
    let words = c.args.words.now in
    let w = c.loop-w.w in
    let found = c.starts_in.result in
    let step = further (bits_of_words (take w words)) (bits_of_words (take (w + 1) words)) (get_or words w 0) c.loop-w.before found _ (bits_more words w (omega arith)) c.loop-w.invariant.last (omega arith) c.starts_in.ensures (true_count_of-word_bits found 64 (omega arith)) in
    omega (arith, c.loop-w.invariant.count, step.count, few_starts (bits_of_words (take (w + 1) words)), count_below words (w + 1), (is_mask c.args.rows words c.requires.mask).few)

pub loop-w-preserved : goal.loop-w-preserved
loop-w-preserved c =
    let words = c.args.words.now in
    let w = c.loop-w.w in
    let found = c.starts_in.result in
    let step = further (bits_of_words (take w words)) (bits_of_words (take (w + 1) words)) (get_or words w 0) c.loop-w.before found _ (bits_more words w (omega arith)) c.loop-w.invariant.last (omega arith) c.starts_in.ensures (true_count_of-word_bits found 64 (omega arith)) in
    record { count = omega (arith, c.loop-w.invariant.count, step.count); last = step.last }

pub returns : goal.returns
returns c =
    let words = c.args.words.now in
    c.loop-w.invariant.count ∙ ap (λ l. true_count_of (starts false (bits_of_words l))) (take_all c.loop-w.w words (omega (arith, c.requires.lengths)))
    ∙ all_counted c.args.rows words (is_mask c.args.rows words c.requires.mask)
