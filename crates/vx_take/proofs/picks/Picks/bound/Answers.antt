use Rattle.std.proofs.Common.{◌≡◌, ap, subst, List}
use Rattle.std.specs.Prelude.{ℕ, Option}
use Rattle.vx_take.specs.Picks.{AreBelow, BoundedPicks, picks_of}
use Rattle.vx_take.proofs.PickLists.{places_below}
use Rattle.vx_take.proofs.picks.Picks.bound.Goals as goal

pub returns-clause-below : goal.returns-clause-below
returns-clause-below c =
    let inside = c.self.inside in
    let same : picks_of inside.places.items ≡ c.args.self.now.picks = ap (λ (b : BoundedPicks). b.picks) c.self.view_is in
    let P : List (Option ℕ) → Type 0 = λ l. AreBelow l inside.bound in
    subst P same (places_below inside.places.items inside.bound c.self.invariant)
