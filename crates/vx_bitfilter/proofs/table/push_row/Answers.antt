use Rattle.std.proofs.Common.{◌+◌, ◌*◌, ◌<◌, refl, ◌∙◌, arith}
use Rattle.vx_bitfilter.proofs.PackedBytes.{entry_by_half, entry_pushed, upper_entry}
use Rattle.vx_bitfilter.proofs.table.push_row.Goals as goal

pub below-requires-clause-small : goal.below-requires-clause-small
below-requires-clause-small c =
    (upper_entry c.loop-upper.entries.items _ c.loop-upper.upper c.args.mask _ _ c.loop-upper.invariant.items (omega arith) c.requires.some c.requires.small (omega arith) c.index-packed.ensures).small

pub below-requires-in-loop-upper-clause-small : goal.below-requires-in-loop-upper-clause-small
below-requires-in-loop-upper-clause-small c =
    (upper_entry c.loop-upper.entries.items _ c.loop-upper.upper c.args.mask _ _ c.loop-upper.invariant.items (omega arith) c.requires.some c.requires.small (omega arith) c.index-packed.ensures).small

pub loop-upper-preserved : goal.loop-upper-preserved
loop-upper-preserved c =
    let v = c.loop-upper.invariant in
    let upper = c.loop-upper.upper in
    let mask = c.args.mask in
    let n = 256 * mask + 2 * upper in
    let packed = c.index-packed.result.now in
    let known = upper_entry c.loop-upper.entries.items n upper mask packed _ v.items (omega arith) c.requires.some c.requires.small (omega arith) c.index-packed.ensures in
    let even : 2 * upper + 0 < 256 = omega arith in
    let odd : 2 * upper + 1 < 256 = omega arith in
    let first = entry_pushed c.loop-upper.entries.items c.push_reserved.new.self.items n (n + 1) c.below.result (2 * upper + 0) mask v.items c.push_reserved.ensures.items (omega arith) even (c.below.ensures ∙ entry_by_half mask upper 0 packed c.requires.small (omega arith) known.value) refl in
    let second = entry_pushed c.push_reserved.new.self.items c.push_reserved-in-loop-upper.new.self.items (n + 1) (256 * mask + 2 * (upper + 1)) c.below-in-loop-upper.result (2 * upper + 1) mask first c.push_reserved-in-loop-upper.ensures.items (omega arith) odd (c.below-in-loop-upper.ensures ∙ entry_by_half mask upper 1 packed c.requires.small (omega arith) known.value) (omega arith) in
    record {
      items = second;
      len = omega (arith, c.push_reserved.ensures.len, c.push_reserved-in-loop-upper.ensures.len, v.len);
      capacity = c.push_reserved-in-loop-upper.ensures.capacity ∙ c.push_reserved.ensures.capacity ∙ v.capacity;
    }
