use Rattle.std.proofs.Common.{◌+◌, ◌*◌, length, map, refl, ap, ◌∙◌, arith}
use Rattle.std.specs.List.{slice_get}
use Rattle.std.proofs.lemmas.List.{take_all}
use Rattle.vx_bits.specs.BitBuffer.{true_count_of}
use Rattle.vx_filter.proofs.Picks.{ascending_below, picked_at_the_set}
use Rattle.vx_mask.specs.Positions.{set_of}
use Rattle.vx_mask.proofs.MarkedBits.{word_within_bits}
use Rattle.vx_mask.proofs.WordCounts.{count_of_word, counts_rise}
use Rattle.vx_words.proofs.PickedRows.{picked_more}
use Rattle.vx_words.proofs.filter.put_picked.Goals as goal

pub loop-i-init : goal.loop-i-init
loop-i-init g c = record { front = refl; rest = refl; count = refl }

pub copy_picked-kept-requires-clause-within : goal.copy_picked-kept-requires-clause-within
copy_picked-kept-requires-clause-within g c =
    ascending_below (64 * c.loop-i.i) (length c.args.src.now) _ (word_within_bits c.args.mask.now c.loop-i.i _ (length c.args.src.now) (omega (arith, c.len.ensures, c.div_ceil-i-end.ensures)) c.requires.same c.word-word.ensures)

pub copy_picked-kept-requires-clause-room : goal.copy_picked-kept-requires-clause-room
copy_picked-kept-requires-clause-room g c =
    let m = c.args.mask.now in
    let i = c.loop-i.i in
    omega (arith, c.loop-i.invariant.count, count_of_word m i _ c.word-word.ensures, counts_rise m (64 * (i + 1)), c.requires.room)

pub loop-i-preserved : goal.loop-i-preserved
loop-i-preserved g c =
    let step = c.copy_picked-kept.ensures in
    picked_more c.args.src.now c.args.mask.now c.args.dst.now c.loop-i.dst _ c.loop-i.kept _ c.loop-i.i _ (omega (arith, c.len.ensures, c.div_ceil-i-end.ensures)) c.word-word.ensures step.count step.front step.rest c.loop-i.invariant

pub returns-clause-count : goal.returns-clause-count
returns-clause-count g c =
    c.loop-i.invariant.count ∙ ap true_count_of (take_all (64 * c.loop-i.i) c.args.mask.now (omega (arith, c.len.ensures, c.div_ceil-i-end.ensures)))

pub returns-clause-front : goal.returns-clause-front
returns-clause-front g c =
    let m = c.args.mask.now in
    let all = take_all (64 * c.loop-i.i) m (omega (arith, c.len.ensures, c.div_ceil-i-end.ensures)) in
    picked_at_the_set m c.args.src.now _ c.requires.same (c.loop-i.invariant.front ∙ ap (λ l. map (slice_get c.args.src.now) (set_of l)) all)
