use Rattle.std.proofs.Common.{◌≡◌}
use Rattle.std.specs.Io.KnownBytes.{Keeps}
use Rattle.vx_io.proofs.standard.StdSinkSink.write.Given as goal

-- before the last try no fault is counted, and the writer keeps its bytes
abbrev pub invariant-loop : goal.invariant-loop
invariant-loop g l = record {
  kept : Keeps (g.W.Write.contents l.fn.self.writer) (g.W.Write.contents l.self-inside.writer);
  faults : l.self-inside.faults ≡ l.fn.self.faults;
}
