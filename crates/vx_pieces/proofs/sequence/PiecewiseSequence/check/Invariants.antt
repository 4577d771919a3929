-- The pieces before the one at hand are sound, and their lengths are counted.
use Rattle.std.proofs.Common.{◌≡◌, ◌≤◌, ◌*◌, take, true}
use Rattle.std.specs.List.{list_all}
use Rattle.vx_pieces.specs.Pieces.{is_sound_piece, pieces_of, total_length}
use Rattle.vx_pieces.proofs.sequence.PiecewiseSequence.check.Given as goal

abbrev pub invariant-loop-i : goal.invariant-loop-i
invariant-loop-i l = record {
  sound : list_all is_sound_piece (take l.i (pieces_of l.self)) ≡ true;
  total : l.total ≡ total_length (take l.i (pieces_of l.self));
  few : l.total ≤ l.i * 18446744073709551615;
}
