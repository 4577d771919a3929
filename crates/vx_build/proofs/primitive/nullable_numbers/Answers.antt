-- Each record is the row of its number, and null is that of none.
use Rattle.std.proofs.Common.{ap, ◌∙◌}
use Rattle.vx_bits.specs.Records.{records_of, width_of}
use Rattle.vx_model.specs.Column.{Column}
use Rattle.vx_model.specs.Numbers.{numbers_of}
use Rattle.vx_build.proofs.Shown.{fits_values, numbers_of_some, rows_of_some}
use Rattle.vx_build.proofs.primitive.nullable_numbers.Goals as goal

pub record_column-requires-clause-fitting : goal.record_column-requires-clause-fitting
record_column-requires-clause-fitting g c = fits_values c.args.values.now _ _ c.in_ok-validity.ensures c.in_ok-stored.ensures.len

pub returns-clause-rows : goal.returns-clause-rows
returns-clause-rows g c =
    let n = g.T.NativePType in
    ap (λ (k : Column). k.rows) c.record_column.ensures
    ∙ rows_of_some n.ptype _ c.ptype.ensures.value (width_of c.in_ok-stored.stored) (records_of c.in_ok-stored.stored) n.record_of c.args.values.now _ c.in_ok-validity.ensures c.in_ok-stored.ensures.rows

pub returns-clause-numbers : goal.returns-clause-numbers
returns-clause-numbers g c =
    let n = g.T.NativePType in
    ap numbers_of c.record_column.ensures
    ∙ numbers_of_some n.ptype _ c.ptype.ensures.value (width_of c.in_ok-stored.stored) (records_of c.in_ok-stored.stored) n.record_of n.integer c.args.values.now _ c.in_ok-validity.ensures c.in_ok-stored.ensures.rows c.in_ok-stored.ensures.numbers
