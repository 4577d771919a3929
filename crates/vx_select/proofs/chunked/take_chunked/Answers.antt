-- The picked records, as rows.
use Rattle.std.proofs.Common.{◌∙◌, false, subst}
use Rattle.std.specs.Prelude.{replicate}
use Rattle.vx_bits.specs.Records.{records_of}
use Rattle.vx_types.specs.Nullability.{either_nullable}
use Rattle.vx_take.specs.Picks.{at}
use Rattle.vx_model.specs.Valid.{Valid, nullability_by, present_bits, IsLeft}
use Rattle.vx_column.specs.Validity.{valid_of}
use Rattle.vx_select.proofs.ChunkRows.{is_width-by, taken_rows}
use Rattle.vx_select.proofs.chunked.take_chunked.Goals as goal

pub picked_records-requires-clause-width : goal.picked_records-requires-clause-width
picked_records-requires-clause-width g c =
    is_width-by _ c.width.result g.row.W c.requires.width c.width.ensures.value c.width.ensures.sized

pub returns-clause-rows : goal.returns-clause-rows
returns-clause-rows g c =
    let s = c.args.shape.now in let p = c.args.picks.now in
    let values = g.D.ChunkDecoder.values c.args.decoder.now in let w = valid_of c.in_ok-validity.validity in
    let left = subst (λ (v : Valid). IsLeft v (either_nullable (nullability_by v) c.args.nullability) (at false (present_bits v p.bound) p.picks) w) c.validity.ensures.value c.in_ok-validity.ensures.left in
    c.column_of.ensures.rows
    ∙ taken_rows s values c.requires.values c.validity.ensures.fitting w (either_nullable (nullability_by s.valid) c.args.nullability) p.picks p.bound c.requires.bound
    (records_of c.in_ok-values.values) (replicate g.row.W 0) left c.in_ok-values.ensures.records
