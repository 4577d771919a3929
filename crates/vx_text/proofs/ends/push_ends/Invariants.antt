-- The ends of the rows before the one at hand are put out, and there is room for the others.
use Rattle.std.proofs.Common.{◌≡◌, ◌+◌, ◌-◌, ◌≤◌, ◌++◌, map}
use Rattle.std.specs.Vec.{vec_capacity, vec_len}
use Rattle.vx_text.specs.OffsetList.{offsets_by, run_ends}
use Rattle.vx_text.proofs.ends.push_ends.Given as goal

abbrev pub invariant-loop-row : goal.invariant-loop-row
invariant-loop-row g l = record {
  put : map g.R.OffsetRecord.read l.ends.items ≡ map g.R.OffsetRecord.read l.fn.ends.items ++ run_ends (offsets_by l.fn.run.ptype l.fn.run.records.now) l.base l.fn.run.rows.0 l.row;
  room : vec_len l.ends + (l.fn.run.rows.1 - l.row) ≤ vec_capacity l.ends;
}
