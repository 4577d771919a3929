use Rattle.std.proofs.Common.{◌≡◌, ◌+◌, ◌-◌, ◌*◌, ◌≤◌, take}
use Rattle.std.specs.List.{range_with_len}
use Rattle.vx_bits.specs.BitBuffer.{true_count_of}
use Rattle.vx_bits.specs.WordReader.{then_told}
use Rattle.vx_mask.proofs.ranks.words_before.Given as goal

abbrev pub invariant-loop-w : goal.invariant-loop-w
invariant-loop-w g l =
    let bits = g.R.WordReader.bits l.fn.bits in
    record {
      counted : l.count ≡ true_count_of (take (64 * l.w) bits);
      same : g.R.WordReader.bits l.bits ≡ bits;
      reads : g.R.WordReader.reads l.bits ≡ then_told (g.R.WordReader.reads l.fn.bits) (range_with_len (8 * l.block) (l.w - 8 * l.block));
      cost : g.R.WordReader.spare l.fn.bits ≤ g.R.WordReader.spare l.bits + (l.w - 8 * l.block);
    }
