-- The kept values, and the calls for them.
use Rattle.std.proofs.Common.{◌≡◌, ◌∙◌, ℕ, ◌+◌, ◌<◌, List, Some, length, map, ap, subst, inr, arith}
use Rattle.std.specs.Prelude.{replicate, slice_get, IfOk}
use Rattle.std.specs.List.{items_where_true}
use Rattle.vx_bits.specs.Records.{records_of}
use Rattle.vx_bits.specs.WordReader.{then_told}
use Rattle.vx_mask.specs.Mask.{mask_bits}
use Rattle.vx_mask.specs.Policy.{sparse_limit_of}
use Rattle.vx_mask.specs.Positions.{set_of}
use Rattle.vx_take.specs.Picks.{at}
use Rattle.vx_chunked.specs.Asked.{asked, chunks_touched}
use Rattle.vx_select.specs.Chunks.{chunk_values}
use Rattle.vx_select.proofs.ChunkRows.{kept_count, kept_items, on_err, on_ok, width_small}
use Rattle.vx_select.proofs.chunked.ranked_records.Goals as goal

pub taken_records-requires : goal.taken_records-requires
taken_records-requires g c =
    let small : g.row.W < 64 = width_small g.row.W c.requires.width in
    let count = kept_count c.in_ok-kept.kept.items _ (mask_bits c.args.mask.now) c.in_ok-kept.ensures.value in
    (omega (arith, small), (c.requires.width, omega (arith, c.requires.ranks, count, ap length c.as_slice.ensures.value)))

pub returns-clause-records : goal.returns-clause-records
returns-clause-records g c =
    let s = c.args.shape.now in let bits = mask_bits c.args.mask.now in
    let values = g.D.ChunkDecoder.values c.args.decoder.now in let kept = c.in_ok-kept.kept.items in
    let read : map Some kept ≡ map (λ i. slice_get values (s.offset + i)) (set_of bits) =
    c.in_ok-kept.ensures.value ∙ ap (λ o. map (λ i. slice_get values (o + i)) (set_of bits)) c.offset.ensures.value in
    let same : c.as_slice.result.now ≡ items_where_true bits (chunk_values s values) =
    c.as_slice.ensures.value ∙ kept_items values s.offset s.len c.requires.values kept bits c.requires.long read in
    subst (λ (l : List (List ℕ)). IfOk c.taken_records.result (λ r. records_of r ≡ at (replicate g.row.W 0) l c.args.ranks.now.picks)) same c.taken_records.ensures.records

pub returns-clause-told : goal.returns-clause-told
returns-clause-told g c =
    let bits = mask_bits c.args.mask.now in let limit = sparse_limit_of c.args.policy.now g.row.W in
    let told = c.in_ok-kept.ensures.told ∙ ap (λ o. then_told (g.D.ChunkDecoder.calls c.args.decoder.now) (asked o (set_of bits) limit (chunks_touched o (length bits)))) c.offset.ensures.value in
    (on_ok c.taken_records.result told, on_err c.taken_records.result (inr told))
