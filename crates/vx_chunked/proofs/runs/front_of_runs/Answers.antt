use Rattle.std.proofs.Common.{◌*◌, take}
use Rattle.vx_chunked.specs.Positions.{with_runs}
use Rattle.vx_chunked.proofs.Ascends.{places_inside, places_taken}
use Rattle.vx_chunked.proofs.runs.front_of_runs.Goals as goal

pub returns-clause-taken : goal.returns-clause-taken
returns-clause-taken c =
    places_taken c.args.offset (1024 * c.args.chunk) c.walk-count.result.count (with_runs c.args.runs.now.start c.args.runs.now.end c.args.runs.now.later.now) _ c.walk-count.ensures.inside c.walk-count.ensures.taken

pub returns-clause-inside : goal.returns-clause-inside
returns-clause-inside c = places_inside c.args.offset (1024 * c.args.chunk) (take c.walk-count.result.count (with_runs c.args.runs.now.start c.args.runs.now.end c.args.runs.now.later.now)) c.walk-count.ensures.inside
