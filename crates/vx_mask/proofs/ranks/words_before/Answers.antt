use Rattle.std.proofs.Common.{◌≡◌, ◌+◌, ◌-◌, ◌*◌, ◌/◌, take, length, sym, refl, ap, ◌∙◌, rules, arith}
use Rattle.std.specs.List.{range_with_len}
use Rattle.vx_bits.specs.BitBuffer.{true_count_of}
use Rattle.vx_bits.specs.WordReader.{then_told}
use Rattle.vx_bits.specs.Words.{word_at}
use Rattle.vx_mask.proofs.BlockCounts.{length_blocks, block_start, count_fits}
use Rattle.vx_mask.proofs.WordCounts.{count_of_word, count_before, words_are, words_number, told_start, told_next}
use Rattle.vx_mask.proofs.ranks.words_before.Goals as goal

pub bounds-blocks-block : goal.bounds-blocks-block
bounds-blocks-block g c = omega (arith, ap length c.requires.blocks, length_blocks (g.R.WordReader.bits c.args.bits.now))

pub loop-w-init : goal.loop-w-init
loop-w-init g c = record {
  counted = block_start (g.R.WordReader.bits c.args.bits.now) c.args.blocks.now (c.args.p / 512) c.requires.blocks (omega arith);
  same = refl;
  reads = told_start (g.R.WordReader.reads c.args.bits.now) (8 * (c.args.p / 512));
  cost = omega arith;
}

pub overflow_add-count : goal.overflow_add-count
overflow_add-count g c =
    let bits = g.R.WordReader.bits c.args.bits.now in
    let word = c.word.ensures.value ∙ ap (λ b. word_at b c.loop-w.w) c.loop-w.invariant.same in
    let more = count_of_word bits c.loop-w.w c.word.result word in
    let fits = count_fits bits (64 * (c.loop-w.w + 1)) in
    let counted = c.loop-w.invariant.counted in
    search (rules, arith)

pub loop-w-preserved : goal.loop-w-preserved
loop-w-preserved g c =
    let bits = g.R.WordReader.bits c.args.bits.now in
    let word = c.word.ensures.value ∙ ap (λ b. word_at b c.loop-w.w) c.loop-w.invariant.same in
    record {
      counted = omega (arith, count_of_word bits c.loop-w.w c.word.result word, c.loop-w.invariant.counted);
      same = c.word.ensures.same ∙ c.loop-w.invariant.same;
      reads = told_next _ _ _ _ _ c.loop-w.auto.w c.loop-w.invariant.reads c.word.ensures.told;
      cost = omega (arith, c.word.ensures.cost, c.loop-w.invariant.cost, c.loop-w.auto.w);
    }

pub overflow_add-count-then-rest-gt0 : goal.overflow_add-count-then-rest-gt0
overflow_add-count-then-rest-gt0 g c =
    let bits = g.R.WordReader.bits c.args.bits.now in
    let at : c.loop-w.w ≡ c.args.p / 64 = omega arith in
    let word = c.word-then-rest-gt0.ensures.value ∙ ap (λ b. word_at b (c.args.p / 64)) c.loop-w.invariant.same in
    let counted = c.loop-w.invariant.counted ∙ ap (λ n. true_count_of (take (64 * n) bits)) at in
    let all = count_before bits c.args.p c.word-then-rest-gt0.result word in
    let fits = count_fits bits c.args.p in
    search (rules, arith)

pub returns-then-rest-gt0-clause-value : goal.returns-then-rest-gt0-clause-value
returns-then-rest-gt0-clause-value g c =
    let bits = g.R.WordReader.bits c.args.bits.now in
    let at : c.loop-w.w ≡ c.args.p / 64 = omega arith in
    let word = c.word-then-rest-gt0.ensures.value ∙ ap (λ b. word_at b (c.args.p / 64)) c.loop-w.invariant.same in
    let counted = c.loop-w.invariant.counted ∙ ap (λ n. true_count_of (take (64 * n) bits)) at in
    omega (arith, count_before bits c.args.p c.word-then-rest-gt0.result word)

pub returns-then-rest-gt0-clause-reads : goal.returns-then-rest-gt0-clause-reads
returns-then-rest-gt0-clause-reads g c =
    let start = g.R.WordReader.reads c.args.bits.now in
    let b = c.args.p / 512 in
    let w = c.args.p / 64 in
    let at : c.loop-w.w ≡ w = omega arith in
    let told = c.loop-w.invariant.reads ∙ ap (λ n. then_told start (range_with_len (8 * b) (n - 8 * b))) at in
    told_next start _ _ (8 * b) w (omega arith) told c.word-then-rest-gt0.ensures.told
    ∙ ap (then_told start) (sym (words_are b c.args.p (w + 1 - 8 * b) (omega (arith, c.if-rest-gt0.true)) (omega arith)))

pub returns-else-rest-gt0-clause-reads : goal.returns-else-rest-gt0-clause-reads
returns-else-rest-gt0-clause-reads g c =
    let start = g.R.WordReader.reads c.args.bits.now in
    let b = c.args.p / 512 in
    let w = c.args.p / 64 in
    let at : c.loop-w.w ≡ w = omega arith in
    c.loop-w.invariant.reads ∙ ap (λ n. then_told start (range_with_len (8 * b) (n - 8 * b))) at
    ∙ ap (then_told start) (sym (words_are b c.args.p (w - 8 * b) (omega (arith, c.if-rest-gt0.false)) (omega (arith, c.if-rest-gt0.false))))

pub returns-then-rest-gt0-clause-cost : goal.returns-then-rest-gt0-clause-cost
returns-then-rest-gt0-clause-cost g c =
    let b = c.args.p / 512 in
    let w = c.args.p / 64 in
    omega (arith, c.loop-w.invariant.cost, c.word-then-rest-gt0.ensures.cost, words_number b c.args.p (w + 1 - 8 * b) (omega (arith, c.if-rest-gt0.true)) (omega arith))

pub returns-then-rest-gt0-clause-few : goal.returns-then-rest-gt0-clause-few
returns-then-rest-gt0-clause-few g c =
    let b = c.args.p / 512 in
    omega (arith, words_number b c.args.p (c.args.p / 64 + 1 - 8 * b) (omega (arith, c.if-rest-gt0.true)) (omega arith))

pub returns-else-rest-gt0-clause-cost : goal.returns-else-rest-gt0-clause-cost
returns-else-rest-gt0-clause-cost g c =
    let b = c.args.p / 512 in
    omega (arith, c.loop-w.invariant.cost, words_number b c.args.p (c.args.p / 64 - 8 * b) (omega (arith, c.if-rest-gt0.false)) (omega (arith, c.if-rest-gt0.false)))

pub returns-else-rest-gt0-clause-few : goal.returns-else-rest-gt0-clause-few
returns-else-rest-gt0-clause-few g c =
    let b = c.args.p / 512 in
    omega (arith, words_number b c.args.p (c.args.p / 64 - 8 * b) (omega (arith, c.if-rest-gt0.false)) (omega (arith, c.if-rest-gt0.false)))
