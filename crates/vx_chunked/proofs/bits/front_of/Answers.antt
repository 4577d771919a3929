use Rattle.std.proofs.Common.{◌≡◌, ◌<◌, length, map, ◌∙◌, arith}
use Rattle.std.specs.List.{range_with_len}
use Rattle.std.proofs.lemmas.List.Elements.{All-same}
use Rattle.vx_bits.specs.Words.{word_at, word_count}
use Rattle.vx_mask.specs.Positions.{positions}
use Rattle.vx_chunked.proofs.Ascends.{ascend_below}
use Rattle.vx_chunked.proofs.Handed.{positions_ascend}
use Rattle.vx_chunked.proofs.Marks.{front_clear, front_count, front_marked}
use Rattle.vx_chunked.proofs.bits.front_of.Goals as goal

pub invariant_of-result : goal.invariant_of-result
invariant_of-result c =
    let bits = c.args.bits.now.bits in
    let words = c.load-count.new.words in
    let same : words ≡ map (word_at bits) (range_with_len 0 (word_count (length bits))) = c.load-count.ensures.words in
    record {
      fits = omega arith;
      counted = c.load-count.ensures.count ∙ front_count bits words _ c.len-len.result same c.len-len.ensures c.args.from;
      clear = front_clear bits words _ c.len-len.result same c.len-len.ensures;
    }

pub returns-clause-places : goal.returns-clause-places
returns-clause-places c =
    let bits = c.args.bits.now.bits in
    let words = c.load-count.new.words in
    let same : words ≡ map (word_at bits) (range_with_len 0 (word_count (length bits))) = c.load-count.ensures.words in
    front_marked bits words _ c.len-len.result same c.len-len.ensures c.args.from

pub returns-clause-inside : goal.returns-clause-inside
returns-clause-inside c =
    let bits = c.args.bits.now.bits in
    All-same (λ p. p < 1024) _ (positions c.args.from bits) (returns-clause-places c) (ascend_below c.args.from 1024 1024 (positions c.args.from bits) (positions_ascend c.args.from 1024 c.args.from bits (omega arith) (omega arith)) (omega arith))
