-- Each code names the one row.
use Rattle.std.proofs.Common.{length, ap, ◌∙◌}
use Rattle.vx_model.specs.Column.{Column}
use Rattle.vx_model.specs.Dict.{DictParts}
use Rattle.vx_filler.proofs.FilledRows.{sound-codes}
use Rattle.vx_filler.proofs.rows.repeated.Goals as goal

pub with_codes-requires : goal.with_codes-requires
with_codes-requires c =
    let codes = c.in_ok-codes.codes in let values = c.in_ok-into_ref.field-0 in
    let p : DictParts = record { codes = codes; values = values } in
    rw c.decoded-row.ensures
    (sound-codes p c.args.len
    (ap (λ (x : Column). x.dtype) c.in_ok-codes.ensures ∙ c.in_ok-zero_codes-2.ensures.dtype)
    (ap (λ (x : Column). x.rows) c.in_ok-codes.ensures ∙ c.in_ok-zero_codes-2.ensures.rows)
    (ap (λ (x : Column). length x.rows) c.in_ok-into_ref.ensures ∙ c.requires))
