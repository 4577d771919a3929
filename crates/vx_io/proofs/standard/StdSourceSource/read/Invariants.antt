use Rattle.std.proofs.Common.{◌≡◌}
use Rattle.std.specs.Io.KnownBytes.{Keeps}
use Rattle.vx_io.proofs.standard.StdSourceSource.read.Given as goal

-- before the last try no fault is counted, and the reader keeps its bytes
abbrev pub invariant-loop : goal.invariant-loop
invariant-loop g l = record {
  kept : Keeps (g.R.Read.remaining l.fn.self.reader) (g.R.Read.remaining l.self-inside.reader);
  faults : l.self-inside.faults ≡ l.fn.self.faults;
}
