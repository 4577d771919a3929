use Rattle.std.proofs.Common.{◌≡◌, ◌+◌, ◌≤◌, length, vec_capacity}
use Rattle.std.specs.Prelude.{IfSome}
use Rattle.vx_bits.specs.WordReader.{then_told}
use Rattle.vx_file.specs.Reading.{AreHeld, AreTold, HasRoom}
use Rattle.vx_file.specs.Touched.{blocks_touched}
use Rattle.vx_file.proofs.reading.read_touched.Given as goal

abbrev pub invariant-loop-k : goal.invariant-loop-k
invariant-loop-k g l = record {
  capacity : length l.flags ≤ vec_capacity l.starts;
  room : HasRoom l.numbers.items l.starts.items l.picks.picks l.k;
  held : IfSome (g.R.BlockReader.blocks l.initial.reader) (AreHeld l.width l.numbers.items l.starts.items l.picks.picks l.k);
  told : AreTold (g.R.BlockReader.spare l.initial.reader) l.picks (g.R.BlockReader.reads l.reader ≡ then_told (g.R.BlockReader.reads l.initial.reader) (blocks_touched l.picks.picks l.k));
  same : g.R.BlockReader.blocks l.reader ≡ g.R.BlockReader.blocks l.initial.reader;
  cost : g.R.BlockReader.spare l.initial.reader ≤ g.R.BlockReader.spare l.reader + length (blocks_touched l.picks.picks l.k);
  never_falls : g.R.BlockReader.faults l.initial.reader ≤ g.R.BlockReader.faults l.reader;
}
