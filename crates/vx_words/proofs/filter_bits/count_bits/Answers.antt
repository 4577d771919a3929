use Rattle.std.proofs.Common.{◌*◌, ◌+◌, arith}
use Rattle.std.proofs.lemmas.List.Sums.{count_by-le-length}
use Rattle.vx_mask.proofs.WordCounts.{count_of_word, counts_rise}
use Rattle.vx_words.proofs.filter_bits.count_bits.Goals as goal

pub overflow_add-count : goal.overflow_add-count
overflow_add-count c =
    let bits = c.args.bits.now in
    let i = c.loop-i.i in
    omega (arith, c.loop-i.invariant, count_of_word bits i _ c.word.ensures, counts_rise bits (64 * (i + 1)), count_by-le-length (λ bit. bit) bits, c.len.ensures)

pub loop-i-preserved : goal.loop-i-preserved
loop-i-preserved c =
    omega (arith, c.loop-i.invariant, count_of_word c.args.bits.now c.loop-i.i _ c.word.ensures)
