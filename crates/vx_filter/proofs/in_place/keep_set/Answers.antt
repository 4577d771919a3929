use Rattle.std.proofs.lemmas.List.Sums.{count_by-le-length}
use Rattle.std.proofs.lemmas.List.{take_all, length-take}
use Rattle.vx_mask.specs.Positions.{set_of}
use Rattle.vx_bits.specs.BitBuffer.{true_count_of}
use Rattle.std.specs.List.{slice_get}
use Rattle.std.proofs.Common.{◌≡◌, ◌+◌, ◌*◌, length, drop, subst, ap, ◌∙◌, arith, take, map, refl}
use Rattle.std.specs.Int.RustNames.{count_ones}
use Rattle.vx_bits.specs.Words.{word_at}
use Rattle.vx_bits.proofs.WordLists.{count_of_word}
use Rattle.vx_mask.proofs.MarkedBits.{word_within_bits}
use Rattle.vx_filter.proofs.Moves.{same_further, word_gone}
use Rattle.vx_filter.proofs.in_place.keep_set.Goals as goal

pub keep_picked-kept-requires-clause-within : goal.keep_picked-kept-requires-clause-within
keep_picked-kept-requires-clause-within g c =
    let is = c.word.ensures ∙ ap (λ b. word_at b c.loop-w.w) c.words-words.ensures in
    word_within_bits c.args.bits.now.bits c.loop-w.w c.word.result (length c.loop-w.values) (omega arith) (omega arith) is

pub loop-w-preserved : goal.loop-w-preserved
loop-w-preserved g c =
    let v = c.loop-w.invariant in
    let w = c.loop-w.w in
    let is = c.word.ensures ∙ ap (λ b. word_at b w) c.words-words.ensures in
    let next : 64 * w + 64 ≡ 64 * (w + 1) = omega arith in
    record {
      front = word_gone c.args.bits.now.bits c.args.values.now c.loop-w.values _ c.loop-w.kept _ w c.word.result (omega arith) c.requires (omega arith) is v.front v.after c.keep_picked-kept.ensures.front;
      after = subst (λ n. drop n c.keep_picked-kept.new.values ≡ drop n c.args.values.now) next (c.keep_picked-kept.ensures.after ∙ same_further c.args.values.now c.loop-w.values (64 * w) (64 * w + 64) (omega arith) v.after);
      count = omega (arith, c.keep_picked-kept.ensures.count, v.count, count_of_word c.args.bits.now.bits w, ap count_ones is);
    }

pub loop-w-init : goal.loop-w-init
loop-w-init g c = record { front = refl; after = refl; count = refl }

pub word-requires : goal.word-requires
word-requires g c = omega (arith, c.loop-w-test.true, c.div_ceil-w-end.ensures, c.len.ensures, ap length c.words-words.ensures)

pub keep_picked-kept-requires-clause-behind : goal.keep_picked-kept-requires-clause-behind
keep_picked-kept-requires-clause-behind g c =
    let before = take (64 * c.loop-w.w) c.args.bits.now.bits in
    omega (arith, c.loop-w.invariant.count, count_by-le-length (λ b. b) before, length-take (64 * c.loop-w.w) c.args.bits.now.bits)

pub returns-clause-count : goal.returns-clause-count
returns-clause-count g c =
    c.loop-w.invariant.count ∙ ap true_count_of (take_all (64 * c.loop-w.w) c.args.bits.now.bits (omega (arith, c.loop-w-test.false, c.div_ceil-w-end.ensures, c.len.ensures)))

pub returns-clause-front : goal.returns-clause-front
returns-clause-front g c =
    c.loop-w.invariant.front
    ∙ ap (λ l. map (slice_get c.args.values.now) (set_of l)) (take_all (64 * c.loop-w.w) c.args.bits.now.bits (omega (arith, c.loop-w-test.false, c.div_ceil-w-end.ensures, c.len.ensures)))
