use Rattle.std.proofs.Common.{◌≡◌, ℕ, List, Option, ◌∙◌, ap, arith}
use Rattle.vx_take.specs.Picks.{BoundedPicks}
use Rattle.vx_take.proofs.PickLists.{picks_below}
use Rattle.vx_take.proofs.picks.Picks.from_vec.Goals as goal

pub returns : goal.returns
returns c =
    let bounded : List (Option ℕ) → BoundedPicks = λ l. record { picks = l; bound = c.args.bound } in
    c.from_places.ensures ∙ ap bounded (picks_below c.args.bound c.args.positions.items (omega arith) c.requires)
