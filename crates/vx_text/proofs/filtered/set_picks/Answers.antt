-- The set positions are below the mask's length.
use Rattle.std.proofs.Common.{rules, ◌≡◌, ◌<◌, List, ℕ, subst, sym}
use Rattle.std.specs.List.{All}
use Rattle.vx_mask.specs.Positions.{set_of}
use Rattle.vx_text.proofs.filtered.set_picks.Goals as goal
use Rattle.vx_mask.proofs.PositionLists.{set_below}

pub from_vec-requires : goal.from_vec-requires
from_vec-requires c =
    let bits = c.args.mask.now.bits.bits in
    let set : c.in_ok-positions-in-Some.positions.items ≡ set_of bits = search rules in
    subst (λ (l : List ℕ). All (λ p. p < c.len.result) l) (sym set) (set_below bits c.len.result (sym c.len.ensures))
