use Rattle.vx_mask.proofs.MadeBits.{AreMadeTo}
use Rattle.vx_mask.proofs.positions.bits_of_runs.Given as goal

abbrev pub invariant-loop-run : goal.invariant-loop-run
invariant-loop-run l = AreMadeTo l.bits l.runs l.len l.run-index l.at
