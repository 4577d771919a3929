-- The picks of the numbers before the one at hand.
use Rattle.std.proofs.Common.{◌≡◌, ◌/◌, take}
use Rattle.vx_bits.specs.Words.{word_at}
use Rattle.vx_positions.specs.Positions.{positions_of}
use Rattle.vx_positions.specs.Stored.{shown_numbers}
use Rattle.vx_positions.proofs.shown.picks_shown_of_width.Given as goal

abbrev pub invariant-loop-i : goal.invariant-loop-i
invariant-loop-i g l = record {
  picks : l.picks.picks ≡ positions_of (take l.i (shown_numbers l.ptype l.bits.bits l.records));
  bound : l.picks.bound ≡ l.len;
  word : l.word ≡ word_at l.view (l.i / 64);
}
