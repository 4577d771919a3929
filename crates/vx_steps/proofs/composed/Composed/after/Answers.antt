-- No null comes in by a slice or a filter.
use Rattle.std.proofs.Common.{subst, sym}
use Rattle.vx_mask.specs.Mask.{mask_bits}
use Rattle.vx_positions.specs.Positions.{AllThere}
use Rattle.vx_steps.specs.Compose.{picks_in}
use Rattle.vx_steps.proofs.ComposedPicks.{there-slice, there-filter}
use Rattle.vx_steps.proofs.composed.Composed.after.Goals as goal
use Rattle.vx_lemmas.proofs.Results.{if_ok}

pub returns-in-Slice-clause-there : goal.returns-in-Slice-clause-there
returns-in-Slice-clause-there c = if_ok c.slice.result c.slice.ensures.picks (λ d e none there. subst AllThere (sym e) (there-slice (picks_in c.args.self) c.in-Slice.start c.in-Slice.end there))

pub returns-in-Filter-clause-there : goal.returns-in-Filter-clause-there
returns-in-Filter-clause-there c = if_ok c.filter.result c.filter.ensures.picks (λ d e none there. subst AllThere (sym e) (there-filter (mask_bits c.in-Filter.mask) (picks_in c.args.self) there))

pub returns-in-FilterBy-clause-there : goal.returns-in-FilterBy-clause-there
returns-in-FilterBy-clause-there c = if_ok c.filter_by.result c.filter_by.ensures.picks (λ d e none there. subst AllThere (sym e) (there-filter _ (picks_in c.args.self) there))
