-- What is left has to ascend from the number before.
use Rattle.std.proofs.Common.{◌≡◌, drop}
use Rattle.std.specs.Prelude.{pos}
use Rattle.vx_offsets.specs.Offsets.{ascend_within, record_numbers}
use Rattle.vx_offsets.proofs.offsets.offsets_fit.Given as goal

abbrev pub invariant-loop-i : goal.invariant-loop-i
invariant-loop-i g l =
    ascend_within (pos 0) (record_numbers l.ptype l.records) l.len ≡ ascend_within (pos l.low) (drop l.i (record_numbers l.ptype l.records)) l.len
