use Rattle.std.proofs.Common.{◌+◌, ◌*◌, ◌++◌, ◌∷◌, [], ap, sym, take, map, ◌∙◌, arith}
use Rattle.std.specs.List.{range_with_len}
use Rattle.std.proofs.lemmas.List.FromFn.{map-range_with_len_more}
use Rattle.std.proofs.lemmas.List.Sums.{count_by-le-length}
use Rattle.vx_bits.specs.BitBuffer.{true_count_of}
use Rattle.vx_bits.specs.Words.{word_at}
use Rattle.vx_mask.proofs.WordCounts.{count_of_word, counts_rise}
use Rattle.vx_take.proofs.needs.counts_before.Goals as goal

pub overflow_add-count : goal.overflow_add-count
overflow_add-count c =
    let bits = c.args.bits.now.bits in
    let w = c.loop-w.w in
    omega (arith, c.loop-w.invariant.count, count_of_word bits w c.word.result (c.word.ensures ∙ ap (λ b. word_at b w) c.words-view.ensures), counts_rise bits (64 * (w + 1)), count_by-le-length (λ b. b) bits)

pub loop-w-preserved : goal.loop-w-preserved
loop-w-preserved c =
    let bits = c.args.bits.now.bits in
    let w = c.loop-w.w in
    let v = c.loop-w.invariant in
    record {
      items = c.push_reserved.ensures.items ∙ ap (λ l. l ++ c.loop-w.count ∷ []) v.items ∙ ap (λ n. map (λ i. true_count_of (take (64 * i) bits)) (range_with_len 0 w) ++ n ∷ []) v.count ∙ sym (map-range_with_len_more (λ n. true_count_of (take (64 * n) bits)) 0 w w (omega arith));
      count = omega (arith, v.count, count_of_word bits w c.word.result (c.word.ensures ∙ ap (λ b. word_at b w) c.words-view.ensures));
      len = omega (arith, c.push_reserved.ensures.len, v.len);
      room = c.push_reserved.ensures.capacity ∙ v.room;
    }
