-- The numbers before the one at hand.
use Rattle.std.proofs.Common.{◌≡◌, ◌++◌, map, Some}
use Rattle.std.specs.List.{range_with_len}
use Rattle.vx_pieces.specs.Pieces.{piece_number}
use Rattle.vx_pieces.proofs.expanding.push_picks.Given as goal

abbrev pub invariant-loop-j : goal.invariant-loop-j
invariant-loop-j l = l.picks ≡ record l.initial.picks { picks = l.initial.picks.picks ++ map (λ x. Some x) (map (piece_number l.piece) (range_with_len 0 l.j)) }
