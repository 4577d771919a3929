-- They are offsets.
use Rattle.std.proofs.Common.{rules}
use Rattle.rows_of_steps.proofs.ThreeLists.{are_three}
use Rattle.rows_of_steps.proofs.lists.push_take.Goals as goal

pub take_lists-requires : goal.take_lists-requires
take_lists-requires c = record {
  offsets = are_three;
  bound = search rules;
  long = search rules;
}
