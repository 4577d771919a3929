use Rattle.std.proofs.Common.{◌<◌, Bool, List, length, subst, sym}
use Rattle.std.specs.Prelude.{IfSome}
use Rattle.std.specs.List.{All}
use Rattle.vx_take.specs.Picks.{pick_of}
use Rattle.vx_take.proofs.NeededBits.{places_within}
use Rattle.vx_take.proofs.needs.by_counts.Goals as goal

pub listed-requires : goal.listed-requires
listed-requires c =
    subst (λ (b : List Bool). All (λ place. IfSome (pick_of place) (λ p. p < length b)) c.places.result.now) (sym c.words.ensures)
    (places_within c.args.bits.now.bits c.places.result.now c.args.picks.now.picks c.requires c.places.ensures.value)
