use Rattle.std.proofs.Common.{◌≡◌, Some, Option, IfOk, List, ℕ, map, subst, sym, ap, ◌∙◌, ◌+◌, true}
use Rattle.vx_mask.specs.Positions.{run_positions, runs_ascend}
use Rattle.vx_mask.proofs.AscendingLists.{ascending-run_positions}
use Rattle.vx_chunked.specs.Positions.{AscendFrom, with_runs}
use Rattle.vx_chunked.proofs.Ascends.{ascend_of}
use Rattle.vx_chunked.proofs.Spans.{runs_all}
use Rattle.vx_mask.specs.Policy.{sparse_limit_of}
use Rattle.vx_chunked.proofs.Handed.{on_ok_same, handed_ascend, handed_count, handed_values, handed_calls}
use Rattle.vx_chunked.proofs.filter.filter_chunked_by_slices.Goals as goal

rest_of : ℕ → List (ℕ × ℕ) → List ℕ
rest_of offset runs = map (λ i. offset + i) (with_runs 0 0 runs)

rest_is : (offset : ℕ) (runs : List (ℕ × ℕ)) → map (λ i. offset + i) (with_runs 0 0 runs) ≡ map (λ i. offset + i) (run_positions runs)
rest_is offset runs = ap (map (λ i. offset + i)) (runs_all runs)

up : (len : ℕ) (runs : List (ℕ × ℕ)) → runs_ascend 0 len runs ≡ true → AscendFrom 0 len (run_positions runs)
up len runs h = ascend_of 0 len (run_positions runs) (ascending-run_positions 0 len runs h)

pub filter_at-requires-clause-ascend : goal.filter_at-requires-clause-ascend
filter_at-requires-clause-ascend g c = handed_ascend c.args.offset c.args.len c.range_end-end.result (run_positions c.args.slices.now) _ (c.new-cursor.ensures ∙ rest_is c.args.offset c.args.slices.now) c.range_end-end.ensures (up c.args.len c.args.slices.now c.requires.runs)

pub filter_at-requires-clause-total : goal.filter_at-requires-clause-total
filter_at-requires-clause-total g c = c.total_of-total.ensures ∙ sym (handed_count c.args.offset c.args.len c.range_end-end.result (run_positions c.args.slices.now) _ (c.new-cursor.ensures ∙ rest_is c.args.offset c.args.slices.now) c.range_end-end.ensures (up c.args.len c.args.slices.now c.requires.runs))

pub returns-clause-value : goal.returns-clause-value
returns-clause-value g c =
    subst (λ (l : List (Option g.row.T.Denot)). IfOk c.filter_at.result (λ kept. map Some kept.items ≡ l))
    (handed_values c.args.offset c.args.len c.range_end-end.result (run_positions c.args.slices.now) _ (c.new-cursor.ensures ∙ rest_is c.args.offset c.args.slices.now) c.range_end-end.ensures (up c.args.len c.args.slices.now c.requires.runs) (g.D.ChunkDecoder.values c.args.decoder.now)) c.filter_at.ensures.value

pub returns-clause-told : goal.returns-clause-told
returns-clause-told g c = on_ok_same c.filter_at.result _ _ _ c.filter_at.ensures.told (handed_calls c.args.offset c.args.len c.range_end-end.result (run_positions c.args.slices.now) _ (c.new-cursor.ensures ∙ rest_is c.args.offset c.args.slices.now) c.range_end-end.ensures (up c.args.len c.args.slices.now c.requires.runs) (g.D.ChunkDecoder.calls c.args.decoder.now) c.sparse_limit-limit.result _ (c.sparse_limit-limit.ensures.value ∙ ap (sparse_limit_of c.args.policy.now) c.WIDTH.ensures))
