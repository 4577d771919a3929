-- The records are the numbers of the column.
use Rattle.std.proofs.Common.{sym, ap, ◌∙◌}
use Rattle.vx_bits.specs.Records.{records_of, width_of}
use Rattle.vx_positions.specs.Positions.{first_bad}
use Rattle.vx_column.proofs.NumberLists.{is_int-typed, width-typed, numbers-present, numbers-shown}
use Rattle.vx_column.proofs.array.Array.bad_record.Goals as goal

pub first_bad_present-requires-clause-int : goal.first_bad_present-requires-clause-int
first_bad_present-requires-clause-int c = is_int-typed c.args.self.now.dtype c.args.ptype c.requires

pub first_bad_present-requires-clause-width : goal.first_bad_present-requires-clause-width
first_bad_present-requires-clause-width c =
    width-typed c.args.self.now.dtype c.args.ptype (width_of c.in-Some.values.now) c.requires c.in-Some.ensures.width

pub returns-in-Some : goal.returns-in-Some
returns-in-Some c =
    let numbers = numbers-present c.args.self.now c.args.ptype (records_of c.in-Some.values.now) c.requires c.in-Some.ensures.rows in
    c.first_bad_present.ensures ∙ ap (first_bad c.args.len) (sym numbers)

pub first_bad_shown-requires-clause-int : goal.first_bad_shown-requires-clause-int
first_bad_shown-requires-clause-int c = is_int-typed c.args.self.now.dtype c.args.ptype c.requires

pub first_bad_shown-requires-clause-width : goal.first_bad_shown-requires-clause-width
first_bad_shown-requires-clause-width c =
    let shown = c.in-Some-shown_records in
    width-typed c.args.self.now.dtype c.args.ptype (width_of shown.values.now) c.requires shown.ensures.rows.width

pub returns-in-Some-shown_records : goal.returns-in-Some-shown_records
returns-in-Some-shown_records c =
    let shown = c.in-Some-shown_records in
    let numbers = numbers-shown c.args.self.now c.args.ptype shown.bits.now.bits (records_of shown.values.now) c.requires shown.ensures.rows.rows in
    c.first_bad_shown.ensures ∙ ap (first_bad c.args.len) (sym numbers)
