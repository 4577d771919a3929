-- Each record is the row of its number.
use Rattle.std.proofs.Common.{ap, ◌∙◌}
use Rattle.vx_bits.specs.Records.{records_of, width_of}
use Rattle.vx_model.specs.Column.{Column}
use Rattle.vx_model.specs.Numbers.{numbers_of}
use Rattle.vx_build.proofs.Shown.{numbers_of_all, rows_of_all}
use Rattle.vx_build.proofs.primitive.numbers.Goals as goal

pub returns-clause-rows : goal.returns-clause-rows
returns-clause-rows g c =
    let n = g.T.NativePType in
    ap (λ (k : Column). k.rows) c.record_column.ensures
    ∙ rows_of_all n.ptype _ c.ptype.ensures.value (width_of c.in_ok-stored.stored) (records_of c.in_ok-stored.stored) n.record_of c.args.values.now c.in_ok-stored.ensures.records

pub returns-clause-numbers : goal.returns-clause-numbers
returns-clause-numbers g c =
    let n = g.T.NativePType in
    ap numbers_of c.record_column.ensures
    ∙ numbers_of_all n.ptype _ c.ptype.ensures.value (width_of c.in_ok-stored.stored) (records_of c.in_ok-stored.stored) n.integer c.args.values.now c.in_ok-stored.ensures.numbers
