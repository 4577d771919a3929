-- No position is a null.
use Rattle.std.proofs.Common.{ap, subst, sym}
use Rattle.vx_take.specs.Picks.{BoundedPicks}
use Rattle.vx_positions.specs.Positions.{AllThere}
use Rattle.vx_parts.proofs.planning.take_of.Goals as goal
use Rattle.vx_pieces.proofs.PieceLists.{all_there-numbers}

pub pick_indices-requires : goal.pick_indices-requires
pick_indices-requires c = λ _. subst AllThere (sym (ap (λ (p : BoundedPicks). p.picks) c.from_vec-picks.ensures)) (all_there-numbers c.in_ok-from_slice.field-0.items)
