-- All records are positions.
use Rattle.std.proofs.Common.{sym, ◌∙◌}
use Rattle.vx_positions.proofs.NumberLists.{none_bad-present}
use Rattle.vx_positions.proofs.present.first_bad_present_of_width.Goals as goal

pub returns-then-are_positions : goal.returns-then-are_positions
returns-then-are_positions g c = sym (none_bad-present c.args.len c.args.ptype c.args.records.now (sym c.are_positions.ensures ∙ c.if-are_positions.true))
