-- Where no pair is refused, all are there and of the types of keys.
use Rattle.std.proofs.Common.{◌∙◌, sym}
use Rattle.vx_join.proofs.Tied.{none_missing, none_of_other_types}
use Rattle.vx_join.proofs.joining.join_indices.Goals as goal

pub first_of_other_types-requires : goal.first_of_other_types-requires
first_of_other_types-requires c =
    none_missing c.args.left.now c.args.right.now c.args.keys.now (sym c.first_missing.ensures ∙ c.in_default.is)

pub matched-requires-clause-there : goal.matched-requires-clause-there
matched-requires-clause-there c =
    none_missing c.args.left.now c.args.right.now c.args.keys.now (sym c.first_missing.ensures ∙ c.in_default.is)

pub matched-requires-clause-types : goal.matched-requires-clause-types
matched-requires-clause-types c =
    none_of_other_types c.args.left.now c.args.right.now c.args.keys.now (sym c.first_of_other_types.ensures ∙ c.in_default-first_of_other_types.is)
