use Rattle.std.proofs.Common.{◌≡◌, ◌*◌, length, take, drop}
use Rattle.vx_mask.specs.Positions.{set_of}
use Rattle.vx_arrow.proofs.known.write_set.Given as goal

abbrev pub invariant-loop-w : goal.invariant-loop-w
invariant-loop-w l = record {
  front : take l.kept l.places ≡ set_of (take (64 * l.w) l.bits.bits);
  rest : drop l.kept l.places ≡ drop l.kept l.initial.places;
  count : l.kept ≡ length (set_of (take (64 * l.w) l.bits.bits));
}
