-- The pieces so far are those of the rows before the one at hand, and all with those from it on.
use Rattle.std.proofs.Common.{◌≡◌, ◌-◌, ◌≤◌, ◌++◌}
use Rattle.std.specs.List.{All, range_with_len}
use Rattle.vx_cuts.specs.Runs.{IsPieceOf, piece_places, pieces_between}
use Rattle.vx_cuts.proofs.runs.push_run.Given as goal

abbrev pub invariant-loop-at : goal.invariant-loop-at
invariant-loop-at l = record {
  above : l.start ≤ l.at;
  below : l.at ≤ l.end;
  pieces : l.pieces.items ++ pieces_between l.bounds l.at l.end ≡ l.fn.pieces.items ++ pieces_between l.bounds l.start l.end;
  sound : All (IsPieceOf l.bounds) l.pieces.items;
  places : piece_places l.bounds l.pieces.items ≡ piece_places l.bounds l.fn.pieces.items ++ range_with_len l.start (l.at - l.start);
}

abbrev pub decreases-loop-at : goal.decreases-loop-at
decreases-loop-at l = l.end - l.at
