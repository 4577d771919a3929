-- The runs so far.
use Rattle.vx_arrow_image.specs.Image.{part_of}
use Rattle.vx_arrow_columns.proofs.RunRows.{RunsTo}
use Rattle.vx_arrow_columns.proofs.copying.write_runs.Given as goal

abbrev pub invariant-loop-k : goal.invariant-loop-k
invariant-loop-k l = RunsTo l.node.width l.node.values.now (part_of l.node) l.picks.runs.now l.picks.add l.k l.at l.out
