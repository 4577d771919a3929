-- The picked lists lie in the runs.
use Rattle.std.proofs.Common.{◌≤◌, arith}
use Rattle.vx_lists.proofs.ListsOfOneSize.{length-fixed_runs, takes_fixed}
use Rattle.vx_lists.proofs.TakenLists.{below_more}
use Rattle.vx_lists.proofs.fixed.take_fixed.Goals as goal

pub returns-clause-lists : goal.returns-clause-lists
returns-clause-lists c some =
    let bound : c.bound.result ≤ c.args.rows = omega (arith, c.bound.ensures.value, c.requires.bound) in
    takes_fixed c.args.size c.args.rows c.args.picks.now.picks c.in_ok-runs.runs some (below_more c.args.picks.now.picks c.bound.result c.args.rows bound c.bound.ensures.below) c.in_ok-runs.ensures.places c.in_ok-runs.ensures.inside

pub returns-clause-elements : goal.returns-clause-elements
returns-clause-elements c = length-fixed_runs c.args.size c.args.picks.now.picks c.in_ok-runs.runs c.in_ok-runs.ensures.places
