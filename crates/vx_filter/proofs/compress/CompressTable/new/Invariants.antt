use Rattle.vx_filter.specs.Compress.{IsTable}
use Rattle.vx_filter.proofs.compress.CompressTable.new.Given as goal

abbrev pub invariant-loop-byte : goal.invariant-loop-byte
invariant-loop-byte l = IsTable l.byte l.places.items
