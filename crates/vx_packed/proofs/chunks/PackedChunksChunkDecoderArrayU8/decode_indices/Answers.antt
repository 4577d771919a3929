use Rattle.std.proofs.Common.{◌*◌, map, ap, ◌∙◌}
use Rattle.std.specs.Prelude.{slice_get}
use Rattle.vx_decoder.specs.Told.{whole_chunks}
use Rattle.vx_decoder.proofs.ReadPlaces.{part_at, places_below}
use Rattle.vx_packed.specs.Chunk.{chunk_at}
use Rattle.vx_packed.specs.Parts.{all_numbers, parts_of, records_of}
use Rattle.vx_packed.proofs.RecordLists.{chunk_records}
use Rattle.vx_packed.proofs.chunks.PackedChunksChunkDecoderArrayU8.decode_indices.Goals as goal

pub returns-clause-value : goal.returns-clause-value
returns-clause-value g c =
    let indices = c.args.indices.now in
    let numbers = c.part_of-part.ensures.numbers ∙ ap (λ l. chunk_at (all_numbers (parts_of l)) c.args.chunk_idx) c.as_slice.ensures in
    let records = chunk_records g.row.W c.self.inside.bytes c.part_of-part.result.now c.args.self.now c.args.chunk_idx c.self.invariant.bounded numbers c.self.view_is in
    c.put_records_at.ensures
    ∙ ap (λ l. map (slice_get l) indices) records
    ∙ part_at (whole_chunks (records_of g.row.W c.args.self.now)) (1024 * c.args.chunk_idx) 1024 indices (places_below indices c.requires.ascend)
