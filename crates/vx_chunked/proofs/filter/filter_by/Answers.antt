use Rattle.std.proofs.Common.{◌≡◌, Some, Option, IfOk, List, length, map, subst, sym, ap, ◌∙◌}
use Rattle.vx_mask.specs.Positions.{set_of}
use Rattle.vx_mask.proofs.PositionLists.{length-positions}
use Rattle.vx_chunked.specs.Asked.{end_of}
use Rattle.vx_mask.specs.Policy.{sparse_limit_of}
use Rattle.vx_chunked.proofs.Handed.{on_ok_same, set_ascend, handed_ascend, handed_count, handed_values, handed_calls}
use Rattle.vx_chunked.proofs.filter.filter_by.Goals as goal

pub filter_at-requires-clause-ascend : goal.filter_at-requires-clause-ascend
filter_at-requires-clause-ascend g c =
    let bits = c.args.mask.now.bits.bits in
    let end = c.range_end-end.ensures ∙ ap (end_of c.args.offset) c.len.ensures in
    handed_ascend c.args.offset (length bits) c.range_end-end.result (set_of bits) _ c.requires.rest end (set_ascend bits)

pub filter_at-requires-clause-total : goal.filter_at-requires-clause-total
filter_at-requires-clause-total g c =
    let bits = c.args.mask.now.bits.bits in
    let end = c.range_end-end.ensures ∙ ap (end_of c.args.offset) c.len.ensures in
    c.true_count.ensures.count ∙ sym (handed_count c.args.offset (length bits) c.range_end-end.result (set_of bits) _ c.requires.rest end (set_ascend bits) ∙ length-positions 0 bits)

pub returns-clause-value : goal.returns-clause-value
returns-clause-value g c =
    let bits = c.args.mask.now.bits.bits in
    let end = c.range_end-end.ensures ∙ ap (end_of c.args.offset) c.len.ensures in
    subst (λ (l : List (Option g.row.T.Denot)). IfOk c.filter_at.result (λ kept. map Some kept.items ≡ l))
    (handed_values c.args.offset (length bits) c.range_end-end.result (set_of bits) (g.C.Cursor.rest c.args.cursor.now) c.requires.rest end (set_ascend bits) (g.D.ChunkDecoder.values c.args.decoder.now)) c.filter_at.ensures.value

pub returns-clause-told : goal.returns-clause-told
returns-clause-told g c =
    let bits = c.args.mask.now.bits.bits in
    let end = c.range_end-end.ensures ∙ ap (end_of c.args.offset) c.len.ensures in
    on_ok_same c.filter_at.result _ _ _ c.filter_at.ensures.told
    (handed_calls c.args.offset (length bits) c.range_end-end.result (set_of bits) (g.C.Cursor.rest c.args.cursor.now) c.requires.rest end (set_ascend bits) (g.D.ChunkDecoder.calls c.args.decoder.now) c.sparse_limit-limit.result _ (c.sparse_limit-limit.ensures.value ∙ ap (sparse_limit_of c.args.policy.now) c.WIDTH.ensures))
