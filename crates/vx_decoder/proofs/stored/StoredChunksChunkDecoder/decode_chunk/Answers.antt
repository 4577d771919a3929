use Rattle.std.proofs.Common.{◌≡◌, ◌+◌, ◌*◌, ◌-◌, take, drop, sym, ap, ◌∙◌, arith}
use Rattle.vx_decoder.specs.Told.{whole_chunks}
use Rattle.vx_decoder.specs.Laws.{whole_chunks_same}
use Rattle.vx_decoder.proofs.stored.StoredChunksChunkDecoder.decode_chunk.Goals as goal

pub returns-clause-value : goal.returns-clause-value
returns-clause-value g c =
    let first = 1024 * c.args.chunk_idx in
    let width : first + 1024 - first ≡ 1024 = omega arith in
    let held = c.as_slice.ensures ∙ sym (whole_chunks_same c.self.inside.held c.self.invariant (omega arith)) ∙ ap whole_chunks c.self.view_is in
    c.copy_from_slice.ensures.after ∙ ap (λ l. take (first + 1024 - first) (drop first l)) held ∙ ap (λ n. take n (drop first (whole_chunks c.args.self.now))) width
