use Rattle.std.proofs.Common.{◌≡◌, ◌+◌, ◌*◌, ◌/◌, length, take, ap, arith}
use Rattle.vx_bits.specs.BitBuffer.{true_count_of}
use Rattle.vx_mask.proofs.PositionLists.{true_count_between}
use Rattle.vx_mask.proofs.BlockCounts.{count_fits, counts_more, counts_all}
use Rattle.vx_mask.proofs.blocks.counts_of.Goals as goal

pub overflow_add-count : goal.overflow_add-count
overflow_add-count c =
    let bits = c.args.bits.now.bits in
    let b = c.loop-b.b in
    let part = c.count_range-count.ensures in
    let all = true_count_between bits (512 * b) (512 * b + 512) (omega arith) in
    let fits = count_fits bits (512 * b + 512) in
    omega (arith, part, all, fits, c.loop-b.invariant.counted)

pub loop-b-preserved : goal.loop-b-preserved
loop-b-preserved c =
    let bits = c.args.bits.now.bits in
    let b = c.loop-b.b in
    let held = c.loop-b.invariant in
    let next : 512 * b + 512 ≡ 512 * (b + 1) = omega arith in
    let part = c.count_range-count.ensures in
    record {
      counted = omega (arith, true_count_between bits (512 * b) (512 * b + 512) (omega arith), part, held.counted, ap (λ n. true_count_of (take n bits)) next);
      blocks = counts_more bits b c.loop-b.count _ _ held.blocks held.counted c.in_ok-push.ensures.items;
    }

pub returns : goal.returns
returns c =
    let bits = c.args.bits.now.bits in
    let held = c.loop-b.invariant in
    let last : c.loop-b.b ≡ length bits / 512 = omega (arith, c.len-last.ensures) in
    counts_all bits c.loop-b.b c.loop-b.count _ _ last held.blocks held.counted c.in_ok-push-2.ensures.items
