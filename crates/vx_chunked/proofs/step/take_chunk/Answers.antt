use Rattle.std.proofs.Common.{◌≡◌, ◌+◌, ◌*◌, Some, length, map, ap, sym, ◌∙◌, arith}
use Rattle.std.specs.Prelude.{slice_get}
use Rattle.std.specs.List.{range_with_len}
use Rattle.vx_mask.specs.Positions.{ascending}
use Rattle.vx_chunked.proofs.Ascends.{ascend_below, ascend_few, ascend_full, ascending_of}
use Rattle.std.proofs.lemmas.List.{length-take-le}
use Rattle.vx_bits.specs.WordReader.{then_told}
use Rattle.vx_chunked.proofs.Counts.{call_only, call_whole}
use Rattle.vx_decoder.proofs.ReadPlaces.{part_at}
use Rattle.vx_chunked.proofs.ValuesAt.{whole_part}
use Rattle.vx_chunked.proofs.step.take_chunk.Goals as goal

pub decode_indices-requires-clause-ascend : goal.decode_indices-requires-clause-ascend
decode_indices-requires-clause-ascend g c =
    ap (ascending 0 1024) c.list_places.ensures ∙ ascending_of 0 1024 (g.C.Cursor.taken c.args.cursor.now) c.requires.ascend

pub copy_values-requires-clause-ascend : goal.copy_values-requires-clause-ascend
copy_values-requires-clause-ascend g c = ascending_of 0 1024 (g.C.Cursor.taken c.args.cursor.now) c.requires.ascend

pub returns-then-count-limit-clause-value : goal.returns-then-count-limit-clause-value
returns-then-count-limit-clause-value g c =
    let values = g.D.ChunkDecoder.values c.args.decoder.now in
    c.decode_indices.ensures.value ∙ ap (map (λ p. slice_get values (1024 * c.args.chunk + p))) c.list_places.ensures

pub returns-then-count-eq-FILTER_CHUNK_LEN-clause-value : goal.returns-then-count-eq-FILTER_CHUNK_LEN-clause-value
returns-then-count-eq-FILTER_CHUNK_LEN-clause-value g c =
    let values = g.D.ChunkDecoder.values c.args.decoder.now in
    let places = g.C.Cursor.taken c.args.cursor.now in
    let base = 1024 * c.args.chunk in
    let full : length places ≡ 1024 = omega (arith, c.requires.room, c.if-count-eq-FILTER_CHUNK_LEN.true) in
    let all = ascend_full 0 1024 places c.requires.ascend (omega (arith, full)) ∙ ap (range_with_len 0) full in
    ap (map Some) c.decode_chunk.ensures.value ∙ whole_part values base 1024 (omega arith) ∙ ap (map (λ p. slice_get values (base + p))) (sym all)

pub returns-clause-value : goal.returns-clause-value
returns-clause-value g c =
    let values = g.D.ChunkDecoder.values c.args.decoder.now in
    let places = g.C.Cursor.taken c.args.cursor.now in
    c.copy_values.ensures ∙ ap (λ l. map (slice_get l) places) c.decode_chunk-2.ensures.value
    ∙ part_at values (1024 * c.args.chunk) 1024 places (ascend_below 0 1024 1024 places c.requires.ascend (omega arith))

pub returns-then-count-limit-clause-told : goal.returns-then-count-limit-clause-told
returns-then-count-limit-clause-told g c =
    let calls = g.D.ChunkDecoder.calls c.args.decoder.now in
    let long = ap length c.list_places.ensures in
    c.decode_indices.ensures.told ∙ ap (then_told calls) (call_only c.args.limit c.args.chunk _ _ long (λ none. omega (arith, none, c.requires.some)) (omega (arith, c.requires.room, c.if-count-limit.true)))

pub returns-then-count-eq-FILTER_CHUNK_LEN-clause-told : goal.returns-then-count-eq-FILTER_CHUNK_LEN-clause-told
returns-then-count-eq-FILTER_CHUNK_LEN-clause-told g c =
    let calls = g.D.ChunkDecoder.calls c.args.decoder.now in
    c.decode_chunk.ensures.told ∙ ap (then_told calls) (call_whole c.args.limit c.args.chunk (length (g.C.Cursor.taken c.args.cursor.now)) (λ none. omega (arith, none, c.requires.some)) (omega (arith, c.requires.room, c.if-count-limit.false)))

pub returns-clause-told : goal.returns-clause-told
returns-clause-told g c =
    let calls = g.D.ChunkDecoder.calls c.args.decoder.now in
    c.decode_chunk-2.ensures.told ∙ ap (then_told calls) (call_whole c.args.limit c.args.chunk (length (g.C.Cursor.taken c.args.cursor.now)) (λ none. omega (arith, none, c.requires.some)) (omega (arith, c.requires.room, c.if-count-limit.false)))

pub slice_bounds-places-end : goal.slice_bounds-places-end
slice_bounds-places-end g c = omega (arith, ascend_few 0 1024 (g.C.Cursor.taken c.args.cursor.now) (omega arith) c.requires.ascend, c.requires.room, c.requires.places, c.if-count-limit.true)

pub slice_bounds-places-end-then-count-limit : goal.slice_bounds-places-end-then-count-limit
slice_bounds-places-end-then-count-limit g c = sym (length-take-le (length c.args.dst.now) c.args.places.now (omega (arith, ascend_few 0 1024 (g.C.Cursor.taken c.args.cursor.now) (omega arith) c.requires.ascend, c.requires.room, c.requires.places, c.if-count-limit.true)))

pub list_places-requires : goal.list_places-requires
list_places-requires g c = length-take-le (length c.args.dst.now) c.args.places.now (omega (arith, ascend_few 0 1024 (g.C.Cursor.taken c.args.cursor.now) (omega arith) c.requires.ascend, c.requires.room, c.requires.places, c.if-count-limit.true)) ∙ c.requires.room
