use Rattle.std.proofs.Common.{◌≡◌, take}
use Rattle.vx_take.specs.Picks.{BoundedPicks}
use Rattle.rows_common.proofs.picks.picks_of.Given as goal

abbrev pub invariant-loop-pick : goal.invariant-loop-pick
invariant-loop-pick l = l.picks ≡ record { picks = take l.pick-index l.list; bound = l.bound }
