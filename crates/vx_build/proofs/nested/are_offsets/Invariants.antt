-- What is left has to ascend from the offset before.
use Rattle.std.proofs.Common.{◌≡◌, drop, map}
use Rattle.std.specs.Prelude.{pos}
use Rattle.vx_offsets.specs.Offsets.{ascend_within}
use Rattle.vx_build.proofs.nested.are_offsets.Given as goal

abbrev pub invariant-loop-offset : goal.invariant-loop-offset
invariant-loop-offset l =
    ascend_within (pos 0) (map pos l.offsets) l.len ≡ ascend_within (pos l.low) (map pos (drop l.offset-index l.offsets)) l.len
