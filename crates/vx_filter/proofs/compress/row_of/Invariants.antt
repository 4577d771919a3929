use Rattle.std.proofs.Common.{◌≡◌, ◌<◌, ◌≤◌, length, take}
use Rattle.std.specs.List.{All}
use Rattle.vx_bits.specs.Words.{word_bits}
use Rattle.vx_mask.specs.Positions.{set_of}
use Rattle.vx_filter.proofs.compress.row_of.Given as goal

abbrev pub invariant-loop-bit : goal.invariant-loop-bit
invariant-loop-bit l = record {
  front : take l.count l.row ≡ set_of (word_bits l.byte l.bit);
  behind : l.count ≤ l.bit;
  eight : length l.row ≡ 8;
  small : All (λ place. place < 8) l.row;
}
