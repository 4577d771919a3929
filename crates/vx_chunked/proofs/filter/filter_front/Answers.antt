use Rattle.std.proofs.Common.{◌≡◌, Some, Option, IfOk, List, [], ℕ, map, subst, sym, ap, ◌∙◌, ◌+◌, arith}
use Rattle.std.specs.List.{range_with_len}
use Rattle.std.proofs.lemmas.List.FromFn.{length-range_with_len}
use Rattle.vx_mask.specs.Policy.{sparse_limit_of}
use Rattle.vx_chunked.specs.Positions.{with_runs}
use Rattle.vx_chunked.proofs.Spans.{runs_front, ascend_front_range}
use Rattle.vx_chunked.proofs.Handed.{on_ok_same, handed_ascend, handed_count, handed_values, handed_calls}
use Rattle.vx_chunked.proofs.filter.filter_front.Goals as goal

rest_is : (offset count : ℕ) → map (λ i. offset + i) (with_runs 0 count []) ≡ map (λ i. offset + i) (range_with_len 0 count)
rest_is offset count = ap (map (λ i. offset + i)) (runs_front count)

pub filter_at-requires-clause-ascend : goal.filter_at-requires-clause-ascend
filter_at-requires-clause-ascend g c =
    handed_ascend c.args.offset c.args.len c.range_end-end.result (range_with_len 0 c.args.count) _ (c.new-cursor.ensures ∙ rest_is c.args.offset c.args.count) c.range_end-end.ensures (ascend_front_range 0 c.args.count c.args.len (omega arith))

pub filter_at-requires-clause-total : goal.filter_at-requires-clause-total
filter_at-requires-clause-total g c =
    sym (handed_count c.args.offset c.args.len c.range_end-end.result (range_with_len 0 c.args.count) _ (c.new-cursor.ensures ∙ rest_is c.args.offset c.args.count) c.range_end-end.ensures (ascend_front_range 0 c.args.count c.args.len (omega arith)) ∙ length-range_with_len 0 c.args.count)

pub returns-clause-value : goal.returns-clause-value
returns-clause-value g c =
    subst (λ (l : List (Option g.row.T.Denot)). IfOk c.filter_at.result (λ kept. map Some kept.items ≡ l))
    (handed_values c.args.offset c.args.len c.range_end-end.result (range_with_len 0 c.args.count) _ (c.new-cursor.ensures ∙ rest_is c.args.offset c.args.count) c.range_end-end.ensures (ascend_front_range 0 c.args.count c.args.len (omega arith)) (g.D.ChunkDecoder.values c.args.decoder.now)) c.filter_at.ensures.value

pub returns-clause-told : goal.returns-clause-told
returns-clause-told g c =
    on_ok_same c.filter_at.result _ _ _ c.filter_at.ensures.told
    (handed_calls c.args.offset c.args.len c.range_end-end.result (range_with_len 0 c.args.count) _ (c.new-cursor.ensures ∙ rest_is c.args.offset c.args.count) c.range_end-end.ensures (ascend_front_range 0 c.args.count c.args.len (omega arith)) (g.D.ChunkDecoder.calls c.args.decoder.now) c.sparse_limit-limit.result _ (c.sparse_limit-limit.ensures.value ∙ ap (sparse_limit_of c.args.policy.now) c.WIDTH.ensures))
