use Rattle.std.proofs.Common.{◌*◌, sym, arith}
use Rattle.vx_filter.specs.Compact.{bits_of_words}
use Rattle.vx_mask.proofs.BlockCounts.{count_all}
use Rattle.vx_mask.proofs.WordCounts.{count_of_word, rank_in_word}
use Rattle.vx_words.proofs.MaskRows.{word_of_words}
use Rattle.vx_words.proofs.ranks.position_of.Goals as goal
use Rattle.vx_filter.proofs.Copies.{length-bits_of_words}

pub returns-then-left-count : goal.returns-then-left-count
returns-then-left-count c =
    let words = c.args.words.now in
    let w = c.loop-w.w in
    let place = c.place_with.ensures in
    sym (rank_in_word (bits_of_words words) c.args.k w c.loop-w.left c.place_with.result _ (word_of_words words w (omega arith) (omega arith)) c.loop-w.invariant place.within place.before place.next c.requires.within).0

pub loop-w-preserved : goal.loop-w-preserved
loop-w-preserved c =
    let words = c.args.words.now in
    let w = c.loop-w.w in
    omega (arith, count_of_word (bits_of_words words) w _ (word_of_words words w (omega arith) (omega arith)), c.loop-w.invariant, c.if-left-count.false)

pub unreachable-requires : goal.unreachable-requires
unreachable-requires c =
    let words = c.args.words.now in
    omega (arith, c.requires.within, c.loop-w.invariant, count_all (bits_of_words words) (64 * c.loop-w.w) (omega (arith, length-bits_of_words words)))

pub overflow_mul-result : goal.overflow_mul-result
overflow_mul-result c = omega (arith, c.requires.counted)

pub overflow_add-result : goal.overflow_add-result
overflow_add-result c = omega (arith, c.requires.counted, c.place_with.ensures.within)
