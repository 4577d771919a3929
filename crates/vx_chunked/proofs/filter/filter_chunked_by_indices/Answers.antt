use Rattle.std.proofs.Common.{◌≡◌, Some, Option, IfOk, List, map, subst, ap, ◌∙◌}
use Rattle.vx_chunked.proofs.Ascends.{ascend_of}
use Rattle.vx_mask.specs.Policy.{sparse_limit_of}
use Rattle.vx_chunked.proofs.Handed.{on_ok_same, handed_ascend, handed_values, handed_calls}
use Rattle.vx_chunked.proofs.filter.filter_chunked_by_indices.Goals as goal

pub filter_at-requires-clause-ascend : goal.filter_at-requires-clause-ascend
filter_at-requires-clause-ascend g c = handed_ascend c.args.offset c.args.len c.range_end-end.result c.args.indices.now _ c.new-cursor.ensures c.range_end-end.ensures (ascend_of 0 c.args.len c.args.indices.now c.requires.ascend)

pub returns-clause-value : goal.returns-clause-value
returns-clause-value g c =
    subst (λ (l : List (Option g.row.T.Denot)). IfOk c.filter_at.result (λ kept. map Some kept.items ≡ l))
    (handed_values c.args.offset c.args.len c.range_end-end.result c.args.indices.now _ c.new-cursor.ensures c.range_end-end.ensures (ascend_of 0 c.args.len c.args.indices.now c.requires.ascend) (g.D.ChunkDecoder.values c.args.decoder.now)) c.filter_at.ensures.value

pub returns-clause-told : goal.returns-clause-told
returns-clause-told g c = on_ok_same c.filter_at.result _ _ _ c.filter_at.ensures.told (handed_calls c.args.offset c.args.len c.range_end-end.result c.args.indices.now _ c.new-cursor.ensures c.range_end-end.ensures (ascend_of 0 c.args.len c.args.indices.now c.requires.ascend) (g.D.ChunkDecoder.calls c.args.decoder.now) c.sparse_limit-limit.result _ (c.sparse_limit-limit.ensures.value ∙ ap (sparse_limit_of c.args.policy.now) c.WIDTH.ensures))
