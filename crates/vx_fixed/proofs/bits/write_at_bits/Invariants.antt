use Rattle.std.proofs.Common.{◌≡◌, ◌*◌, length, take}
use Rattle.vx_mask.specs.Positions.{set_of}
use Rattle.vx_fixed.specs.Rows.{ArePut}
use Rattle.vx_fixed.proofs.bits.write_at_bits.Given as goal

abbrev pub invariant-loop-w : goal.invariant-loop-w
invariant-loop-w g l = record {
  put : ArePut g.row.W l.src l.from (set_of (take (64 * l.w) l.bits.bits)) l.initial.out l.out;
  count : l.kept ≡ length (set_of (take (64 * l.w) l.bits.bits));
}
