-- What faults say.
use Rattle.std.specs.Prelude.{ℕ, List, ◌++◌, codes, decimal}
use Rattle.vx_chunk_plan.specs.declared.fault.Fault.{Fault}
use Rattle.vx_chunk_plan.specs.declared.fault.Fault.TheVariants as faults

abbrev pub fault_text : Fault → List ℕ
fault_text faults.Width = codes "a row needs 1 to 2^20 bytes"
fault_text faults.ChunkLen = codes "chunks have no rows"
fault_text faults.Starts = codes "starts needs one number more than there are chunks"
fault_text faults.Order = codes "order needs one number for each place"
fault_text faults.Valid = codes "validity has fewer bits than there are picks"
fault_text (faults.Place j) = codes "pick " ++ decimal j ++ codes " is past the rows"
fault_text faults.Chunk = codes "the column has no such chunk"
fault_text faults.Bytes = codes "the bytes are not those of the chunk's rows"
fault_text faults.Output = codes "the output has no room for a row a pick"
fault_text (faults.Stray i) =
    codes "entry " ++ decimal i ++ codes " is not the number of a pick in the chunk"
