-- The positions as picks.
use Rattle.std.proofs.Common.{map, Some, ap, ◌∙◌}
use Rattle.std.specs.Prelude.{is_some}
use Rattle.std.specs.List.{list_all}
use Rattle.vx_positions.proofs.NumberLists.{all_there-positions, picks_are, present_picks}
use Rattle.vx_positions.proofs.present.picks_present_of_width.Goals as goal

pub returns-clause-picks : goal.returns-clause-picks
returns-clause-picks g c =
    picks_are c.from_vec.result _ _
    (ap (λ p. p.picks) c.from_vec.ensures ∙ ap (map Some) c.in_ok-positions_present.ensures.value ∙ present_picks c.args.ptype c.args.records.now)
    (ap (λ p. p.bound) c.from_vec.ensures)

pub returns-clause-there : goal.returns-clause-there
returns-clause-there g c = ap (λ p. list_all is_some p.picks) c.from_vec.ensures ∙ all_there-positions c.in_ok-positions_present.field-0.items
