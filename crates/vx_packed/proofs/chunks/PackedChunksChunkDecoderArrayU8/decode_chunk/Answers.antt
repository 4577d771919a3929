use Rattle.std.proofs.Common.{ap, ◌∙◌}
use Rattle.vx_packed.specs.Chunk.{chunk_at}
use Rattle.vx_packed.specs.Parts.{all_numbers, parts_of}
use Rattle.vx_packed.proofs.RecordLists.{chunk_records}
use Rattle.vx_packed.proofs.chunks.PackedChunksChunkDecoderArrayU8.decode_chunk.Goals as goal

pub returns-clause-value : goal.returns-clause-value
returns-clause-value g c =
    let numbers = c.part_of-part.ensures.numbers ∙ ap (λ l. chunk_at (all_numbers (parts_of l)) c.args.chunk_idx) c.as_slice.ensures in
    c.put_records.ensures ∙ chunk_records g.row.W c.self.inside.bytes c.part_of-part.result.now c.args.self.now c.args.chunk_idx c.self.invariant.bounded numbers c.self.view_is
