use Rattle.std.proofs.Common.{◌≡◌, ℕ, ◌+◌, ◌-◌, ◌*◌, ◌/◌, ◌<◌, ◌≤◌, Bool, List, get_or, take, length, sym, ap, ◌∙◌, arith}
use Rattle.vx_bits.specs.BitBuffer.{true_count_of}
use Rattle.vx_bits.specs.WordReader.{then_told}
use Rattle.vx_mask.specs.Ranks.{blocks_of, words_between}
use Rattle.vx_mask.proofs.BlockCounts.{length_blocks, block_start, block_end, count_fits}
use Rattle.vx_mask.proofs.WordCounts.{counted_more, lower, words_are, words_number}
use Rattle.vx_mask.proofs.ranks.rank_words.Goals as goal

-- the block that was found is that of the bit
block_of : (bits : List Bool) (blocks : List ℕ) (b k r : ℕ) → blocks ≡ blocks_of bits → b < length blocks → (b + 1 < length blocks → k < get_or blocks (b + 1) 0) → k < true_count_of bits → true_count_of (take r bits) ≤ k → 8 * b ≤ r / 64 → b ≡ r / 512
block_of bits blocks b k r e within next h passed from =
    let end = block_end bits blocks b k e within next h in
    let before : r < 512 * (b + 1) = lower bits r (512 * (b + 1)) (omega (arith, passed, end)) in
    omega (arith, from, before)

pub block_with-block-requires-clause-some : goal.block_with-block-requires-clause-some
block_with-block-requires-clause-some g c = omega (arith, ap length c.requires.blocks, length_blocks (g.R.WordReader.bits c.args.bits.now))

pub block_with-block-requires-clause-first : goal.block_with-block-requires-clause-first
block_with-block-requires-clause-first g c =
    let bits = g.R.WordReader.bits c.args.bits.now in
    omega (arith, block_start bits c.args.blocks.now 0 c.requires.blocks (omega arith), count_fits bits (64 * (8 * 0)))

pub rank_from-requires-clause-counted : goal.rank_from-requires-clause-counted
rank_from-requires-clause-counted g c =
    let bits = g.R.WordReader.bits c.args.bits.now in
    let long = ap length c.requires.blocks ∙ length_blocks bits in
    block_start bits c.args.blocks.now c.block_with-block.result c.requires.blocks (omega (arith, c.block_with-block.ensures.within))

pub rank_from-requires-clause-spare : goal.rank_from-requires-clause-spare
rank_from-requires-clause-spare g c =
    let bits = g.R.WordReader.bits c.args.bits.now in
    let b = c.block_with-block.ensures in
    let end = block_end bits c.args.blocks.now c.block_with-block.result c.args.k c.requires.blocks b.within b.next c.requires.within in
    counted_more bits (512 * (c.block_with-block.result + 1)) (64 * (8 * c.block_with-block.result + g.R.WordReader.spare c.args.bits.now)) c.args.k (omega (arith, c.requires.spare)) end

pub returns-clause-reads : goal.returns-clause-reads
returns-clause-reads g c =
    let bits = g.R.WordReader.bits c.args.bits.now in
    let start = g.R.WordReader.reads c.args.bits.now in
    let b = c.block_with-block.result in
    let e = c.block_with-block.ensures in
    let f = c.rank_from.ensures in
    let r = c.rank_from.result in
    let block = block_of bits c.args.blocks.now b c.args.k r c.requires.blocks e.within e.next c.requires.within f.passed f.from in
    f.reads
    ∙ ap (then_told start) (sym (words_are b (r + 1) (r / 64 + 1 - 8 * b) (omega (arith, f.from)) (omega (arith, f.from))))
    ∙ ap (λ n. then_told start (words_between (512 * n) (r + 1))) block

pub returns-clause-cost : goal.returns-clause-cost
returns-clause-cost g c =
    let b = c.block_with-block.result in
    let e = c.block_with-block.ensures in
    let f = c.rank_from.ensures in
    let r = c.rank_from.result in
    let block = block_of (g.R.WordReader.bits c.args.bits.now) c.args.blocks.now b c.args.k r c.requires.blocks e.within e.next c.requires.within f.passed f.from in
    let long = ap (λ n. length (words_between (512 * n) (r + 1))) (sym block) ∙ words_number b (r + 1) (r / 64 + 1 - 8 * b) (omega (arith, f.from)) (omega (arith, f.from)) in
    omega (arith, f.cost, long)

pub returns-clause-few : goal.returns-clause-few
returns-clause-few g c =
    let r = c.rank_from.result in
    omega (arith, words_number (r / 512) (r + 1) (r / 64 + 1 - 8 * (r / 512)) (omega arith) (omega arith))
