use Rattle.std.proofs.Common.{◌≡◌, ◌+◌, ◌-◌, ◌*◌, ◌≤◌, take}
use Rattle.std.specs.List.{range_with_len}
use Rattle.vx_bits.specs.BitBuffer.{true_count_of}
use Rattle.vx_bits.specs.WordReader.{then_told}
use Rattle.vx_mask.proofs.ranks.rank_from.Given as goal

abbrev pub invariant-loop-w : goal.invariant-loop-w
invariant-loop-w g l =
    let bits = g.R.WordReader.bits l.fn.bits in
    record {
      counted : true_count_of (take (64 * l.w) bits) + l.left ≡ l.k;
      same : g.R.WordReader.bits l.bits ≡ bits;
      reads : g.R.WordReader.reads l.bits ≡ then_told (g.R.WordReader.reads l.fn.bits) (range_with_len l.first (l.w - l.first));
      cost : g.R.WordReader.spare l.fn.bits ≤ g.R.WordReader.spare l.bits + (l.w - l.first);
    }
