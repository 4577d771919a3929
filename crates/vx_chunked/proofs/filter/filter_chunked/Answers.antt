use Rattle.std.proofs.Common.{◌+◌, map, ap, ◌∙◌}
use Rattle.vx_chunked.proofs.Spans.{runs_all}
use Rattle.vx_chunked.proofs.filter.filter_chunked.Goals as goal

pub filter_by-requires-clause-rest : goal.filter_by-requires-clause-rest
filter_by-requires-clause-rest g c =
    c.new-cursor.ensures ∙ ap (map (λ i. c.args.offset + i)) (runs_all c.in-Some.slices.now ∙ c.in-Some.ensures.runs.cover)
