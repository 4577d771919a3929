use Rattle.std.proofs.Common.{◌≤◌, ℕ, List, length, ap, subst, sym, ◌∙◌, arith}
use Rattle.vx_mask.specs.Mask.{mask_bits}
use Rattle.vx_mask.specs.Positions.{set_of}
use Rattle.vx_take.specs.Picks.{ArePlaces, AreBelow, BoundedPicks, at, null_place, picks_of}
use Rattle.vx_take.proofs.RankedPicks.{set_picks, set_places}
use Rattle.vx_take.proofs.ranks.translate_ranks.Goals as goal

pub from_places-requires : goal.from_places-requires
from_places-requires c =
    let bits = mask_bits c.args.filter.now in
    let ranks = c.args.ranks.now in
    let fits : length bits ≤ null_place = omega (arith, c.len.ensures) in
    let P : ℕ → Type 0 = λ n. AreBelow ranks.picks n in
    let below = subst P c.bound.ensures.value c.bound.ensures.below in
    let Q : List ℕ → Type 0 = λ l. ArePlaces l c.len.result in
    let R : ℕ → Type 0 = λ n. ArePlaces (at null_place (set_of bits) ranks.picks) n in
    subst Q (sym c.in_ok-places.ensures) (subst R (sym c.len.ensures) (set_places bits ranks.bound ranks.picks c.requires fits below))

pub returns-clause-picks : goal.returns-clause-picks
returns-clause-picks c =
    let bits = mask_bits c.args.filter.now in
    let ranks = c.args.ranks.now in
    let fits : length bits ≤ null_place = omega (arith, c.len.ensures) in
    let P : ℕ → Type 0 = λ n. AreBelow ranks.picks n in
    let below = subst P c.bound.ensures.value c.bound.ensures.below in
    ap (λ (b : BoundedPicks). b.picks) c.from_places.ensures ∙ ap picks_of c.in_ok-places.ensures ∙ set_picks bits ranks.bound ranks.picks c.requires fits below
