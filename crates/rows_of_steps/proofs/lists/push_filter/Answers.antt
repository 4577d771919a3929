-- There is one offset more than lists.
use Rattle.std.proofs.Common.{◌∙◌, ap, length, arith}
use Rattle.rows_of_steps.proofs.ThreeLists.{are_three}
use Rattle.rows_of_steps.proofs.lists.push_filter.Goals as goal

pub filter_lists-requires-clause-offsets : goal.filter_lists-requires-clause-offsets
filter_lists-requires-clause-offsets c = are_three

pub filter_lists-requires-clause-counted : goal.filter_lists-requires-clause-counted
filter_lists-requires-clause-counted c = omega (arith, ap length (c.in-Some.ensures.bits ∙ c.in_ok-lists.ensures))
