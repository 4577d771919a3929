use Rattle.std.proofs.Common.{◌≡◌, ◌+◌, ◌*◌, ◌-◌, take, drop, map, sym, ap, ◌∙◌, arith}
use Rattle.std.specs.Prelude.{slice_get}
use Rattle.vx_decoder.specs.Told.{whole_chunks}
use Rattle.vx_decoder.specs.Laws.{whole_chunks_same}
use Rattle.vx_decoder.proofs.ReadPlaces.{part_at, places_below}
use Rattle.vx_decoder.proofs.stored.StoredChunksChunkDecoder.decode_indices.Goals as goal

pub returns-clause-value : goal.returns-clause-value
returns-clause-value g c =
    let first = 1024 * c.args.chunk_idx in
    let indices = c.args.indices.now in
    let width : first + 1024 - first ≡ 1024 = omega arith in
    let held = c.as_slice.ensures ∙ sym (whole_chunks_same c.self.inside.held c.self.invariant (omega arith)) ∙ ap whole_chunks c.self.view_is in
    c.copy_places.ensures
    ∙ ap (λ l. map (slice_get (take (first + 1024 - first) (drop first l))) indices) held
    ∙ ap (λ n. map (slice_get (take n (drop first (whole_chunks c.args.self.now)))) indices) width
    ∙ part_at (whole_chunks c.args.self.now) first 1024 indices (places_below indices c.requires.ascend)
