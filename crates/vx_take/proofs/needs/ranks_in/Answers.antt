use Rattle.std.proofs.Common.{◌≤◌, ℕ, List, length, map, ap, sym, subst, ◌∙◌, arith}
use Rattle.vx_mask.specs.Mask.{mask_bits}
use Rattle.vx_take.specs.Picks.{ArePlaces, BoundedPicks, null_place, picks_of}
use Rattle.vx_take.specs.Ranks.{place_before, positions_by_rank}
use Rattle.vx_take.proofs.NeededBits.{ranked_picks, ranked_places, ranked_back}
use Rattle.vx_take.proofs.needs.ranks_in.Goals as goal

pub from_places-requires : goal.from_places-requires
from_places-requires c =
    let bits = mask_bits c.args.mask.now in
    let picks = c.args.picks.now.picks in
    let fits : length bits ≤ null_place = omega (arith, c.len.ensures) in
    let items = c.in_ok-places.ensures in
    let P : ℕ → Type 0 = λ n. ArePlaces (map (place_before bits) picks) n in
    let Q : List ℕ → Type 0 = λ l. ArePlaces l c.true_count.result in
    subst Q (sym items) (subst P (sym c.true_count.ensures) (ranked_places bits fits picks c.requires))

pub returns-clause-ranks : goal.returns-clause-ranks
returns-clause-ranks c =
    let bits = mask_bits c.args.mask.now in
    let picks = c.args.picks.now.picks in
    let fits : length bits ≤ null_place = omega (arith, c.len.ensures) in
    let items = c.in_ok-places.ensures in
    ap (λ (b : BoundedPicks). b.picks) c.from_places.ensures ∙ ap picks_of items ∙ ranked_picks bits fits picks c.requires

pub returns-clause-inverse : goal.returns-clause-inverse
returns-clause-inverse c =
    let bits = mask_bits c.args.mask.now in
    ap (positions_by_rank bits) (returns-clause-ranks c) ∙ ranked_back bits c.args.picks.now.picks c.requires
