-- The first list lies in the range.
use Rattle.std.proofs.Common.{◌∙◌, ap, length, arith}
use Rattle.rows_of_steps.proofs.ThreeLists.{are_three, covers_first}
use Rattle.rows_of_steps.proofs.lists.first_list.Goals as goal

pub element_mask_from_offsets-requires-clause-offsets : goal.element_mask_from_offsets-requires-clause-offsets
element_mask_from_offsets-requires-clause-offsets c = are_three

pub element_mask_from_offsets-requires-clause-counted : goal.element_mask_from_offsets-requires-clause-counted
element_mask_from_offsets-requires-clause-counted c = omega (arith, ap length (c.in-Some.ensures.bits ∙ c.in_ok-lists.ensures))

pub element_mask_from_offsets-requires-clause-covered : goal.element_mask_from_offsets-requires-clause-covered
element_mask_from_offsets-requires-clause-covered c = covers_first _ (c.in-Some.ensures.bits ∙ c.in_ok-lists.ensures)
