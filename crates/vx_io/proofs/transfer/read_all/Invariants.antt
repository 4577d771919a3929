use Rattle.std.proofs.Common.{take, vec_len, ◌-◌, ◌+◌, ◌≡◌, ◌≤◌}
use Rattle.vx_io.specs.Bytes.{with_front}
use Rattle.vx_io.specs.declared.transfer.TheConstants.{MAX_BYTES}
use Rattle.vx_io.proofs.transfer.read_all.Given as goal

-- what was read so far stood in front of what is left, and no read has failed
abbrev pub invariant-reading : goal.invariant-reading
invariant-reading g l = record {
  taken : g.S.Source.rest l.fn.source ≡ with_front (take l.filled l.buffer.items) (g.S.Source.rest l.source);
  within : l.filled ≤ vec_len l.buffer;
  short : vec_len l.buffer ≤ MAX_BYTES + 1;
  no_fault : g.S.Source.faults l.source ≡ g.S.Source.faults l.fn.source;
}

abbrev pub decreases-reading : goal.decreases-reading
decreases-reading g l = (MAX_BYTES + 1) - l.filled
