-- What is written reads back.
use Rattle.std.proofs.Common.{◌∙◌, map, ap}
use Rattle.vx_types.specs.TypeTree.{primitive_kind}
use Rattle.vx_model.specs.Numbers.{integer_by, integers_of}
use Rattle.vx_lists.proofs.ReadNumbers.{read_all_back}
use Rattle.vx_lists.proofs.numbers.offset_column.Goals as goal

pub returns-clause-numbers : goal.returns-clause-numbers
returns-clause-numbers c =
    ap integers_of c.number_column.ensures
    ∙ ap (map (integer_by (primitive_kind c.args.ptype))) c.in_ok-records.ensures.records
    ∙ read_all_back c.args.ptype c.args.offsets.now c.requires.int c.requires.small
