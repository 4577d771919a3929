use Rattle.std.proofs.Common.{length, take, ◌-◌, ◌≡◌, ◌≤◌}
use Rattle.vx_io.specs.Bytes.{with_back}
use Rattle.vx_io.proofs.transfer.deliver.Given as goal

-- the text went out as far as `at`, and no write has failed
abbrev pub invariant-writing : goal.invariant-writing
invariant-writing g l = record {
  written : g.K.Sink.held l.sink ≡ with_back (g.K.Sink.held l.fn.sink) (take l.at l.text);
  within : l.at ≤ length l.text;
  no_fault : g.K.Sink.faults l.sink ≡ g.K.Sink.faults l.fn.sink;
}

abbrev pub decreases-writing : goal.decreases-writing
decreases-writing g l = length l.text - l.at
