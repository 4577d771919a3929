use Rattle.vx_filter.proofs.Bytes.{rows_more}
use Rattle.vx_filter.proofs.compress.CompressTable.new.Goals as goal

pub loop-byte-preserved : goal.loop-byte-preserved
loop-byte-preserved c = rows_more c.loop-byte.byte c.loop-byte.places.items _ _ c.in_ok-extend_from_slice.ensures.items c.row_of.ensures c.loop-byte.invariant
