-- What is behind the number at hand decides.
use Rattle.std.proofs.Common.{◌≡◌, ◌/◌, drop}
use Rattle.vx_bits.specs.Words.{word_at}
use Rattle.vx_positions.specs.Positions.{first_bad}
use Rattle.vx_positions.specs.Stored.{shown_numbers}
use Rattle.vx_positions.proofs.shown.first_bad_shown_of_width.Given as goal

abbrev pub invariant-loop-i : goal.invariant-loop-i
invariant-loop-i g l = record {
  bad : first_bad l.len (shown_numbers l.ptype l.bits.bits l.records) ≡ first_bad l.len (drop l.i (shown_numbers l.ptype l.bits.bits l.records));
  word : l.word ≡ word_at l.view (l.i / 64);
}
