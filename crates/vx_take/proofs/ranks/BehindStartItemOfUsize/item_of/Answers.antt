use Rattle.std.proofs.Common.{◌-◌}
use Rattle.vx_take.proofs.RankedPicks.{in_run}
use Rattle.vx_take.proofs.ranks.BehindStartItemOfUsize.item_of.Goals as goal

pub returns-else-rank-eq-NULL_PLACE : goal.returns-else-rank-eq-NULL_PLACE
returns-else-rank-eq-NULL_PLACE c =
    let run = c.args.self.now in
    let there = c.if-rank-eq-NULL_PLACE.false in
    in_run run.start (run.end - run.start) c.args.rank there (c.requires there)
