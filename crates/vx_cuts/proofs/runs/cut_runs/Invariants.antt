-- The pieces of the runs so far.
use Rattle.std.proofs.Common.{◌≡◌, take}
use Rattle.std.specs.List.{All}
use Rattle.vx_take.specs.Picks.{run_places}
use Rattle.vx_cuts.specs.Runs.{IsPieceOf, piece_places, pieces_of_runs}
use Rattle.vx_cuts.proofs.runs.cut_runs.Given as goal

abbrev pub invariant-loop-run : goal.invariant-loop-run
invariant-loop-run l = record {
  pieces : l.pieces.items ≡ pieces_of_runs l.bounds (take l.run-index l.runs);
  sound : All (IsPieceOf l.bounds) l.pieces.items;
  places : piece_places l.bounds l.pieces.items ≡ run_places (take l.run-index l.runs);
}
