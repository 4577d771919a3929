-- A run is joined with the last one, or put behind it.
use Rattle.std.proofs.Common.{◌+◌, ◌≤◌, ℕ, arith}
use Rattle.vx_lists.proofs.TakenLists.{All-changed, places_joined}
use Rattle.vx_lists.proofs.take.push_run.Goals as goal

pub returns-then-last-run-clause-places : goal.returns-then-last-run-clause-places
returns-then-last-run-clause-places c =
    places_joined c.args.runs.now.items c.args.last.0 c.args.last.1 c.args.run.0 c.args.run.1 c.if-last-run.true

pub returns-then-last-run-clause-inside : goal.returns-then-last-run-clause-inside
returns-then-last-run-clause-inside c n next h =
    let joint = c.if-last-run.true in
    All-changed (λ (r : ℕ × ℕ). r.0 + r.1 ≤ n) c.args.runs.now.items c.args.last (c.args.last.0, c.args.last.1 + c.args.run.1) h (omega arith)
