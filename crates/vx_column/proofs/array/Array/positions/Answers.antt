-- The records are the numbers of the column.
use Rattle.std.proofs.Common.{sym, ap, ◌∙◌}
use Rattle.std.proofs.lemmas.Result.{IfOk-weaker}
use Rattle.vx_bits.specs.Records.{records_of, width_of}
use Rattle.vx_positions.specs.Positions.{first_bad}
use Rattle.vx_column.proofs.NumberLists.{is_int-typed, width-typed, numbers-present, numbers-shown}
use Rattle.vx_column.proofs.array.Array.positions.Goals as goal

pub picks_present-requires-clause-int : goal.picks_present-requires-clause-int
picks_present-requires-clause-int c = is_int-typed c.args.self.now.dtype c.args.ptype c.requires.int

pub picks_present-requires-clause-width : goal.picks_present-requires-clause-width
picks_present-requires-clause-width c =
    width-typed c.args.self.now.dtype c.args.ptype (width_of c.in-Some.values.now) c.requires.int c.in-Some.ensures.width

pub picks_present-requires-clause-sound : goal.picks_present-requires-clause-sound
picks_present-requires-clause-sound c =
    let numbers = numbers-present c.args.self.now c.args.ptype (records_of c.in-Some.values.now) c.requires.int c.in-Some.ensures.rows in
    ap (first_bad c.args.len) (sym numbers) ∙ c.requires.sound

pub returns-in-Some-clause-picks : goal.returns-in-Some-clause-picks
returns-in-Some-clause-picks c =
    let numbers = numbers-present c.args.self.now c.args.ptype (records_of c.in-Some.values.now) c.requires.int c.in-Some.ensures.rows in
    rw numbers c.picks_present.ensures.picks

pub returns-in-Some-clause-there : goal.returns-in-Some-clause-there
returns-in-Some-clause-there c = IfOk-weaker c.picks_present.result _ _ (λ p there _. there) c.picks_present.ensures.there

pub picks_shown-requires-clause-int : goal.picks_shown-requires-clause-int
picks_shown-requires-clause-int c = is_int-typed c.args.self.now.dtype c.args.ptype c.requires.int

pub picks_shown-requires-clause-width : goal.picks_shown-requires-clause-width
picks_shown-requires-clause-width c =
    let shown = c.in-Some-shown_records in
    width-typed c.args.self.now.dtype c.args.ptype (width_of shown.values.now) c.requires.int shown.ensures.rows.width

pub picks_shown-requires-clause-sound : goal.picks_shown-requires-clause-sound
picks_shown-requires-clause-sound c =
    let shown = c.in-Some-shown_records in
    let numbers = numbers-shown c.args.self.now c.args.ptype shown.bits.now.bits (records_of shown.values.now) c.requires.int shown.ensures.rows.rows in
    ap (first_bad c.args.len) (sym numbers) ∙ c.requires.sound

pub returns-in-Some-shown_records-clause-picks : goal.returns-in-Some-shown_records-clause-picks
returns-in-Some-shown_records-clause-picks c =
    let shown = c.in-Some-shown_records in
    let numbers = numbers-shown c.args.self.now c.args.ptype shown.bits.now.bits (records_of shown.values.now) c.requires.int shown.ensures.rows.rows in
    rw numbers c.picks_shown.ensures
