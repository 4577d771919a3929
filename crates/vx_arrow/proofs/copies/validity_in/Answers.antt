-- The bits are as many as the rows.
use Rattle.std.proofs.Common.{length, ap, ◌∙◌}
use Rattle.vx_column.specs.Validity.{valid_of}
use Rattle.vx_bits.proofs.BitLists.{length_bits}
use Rattle.vx_arrow.proofs.SoundColumns.{bits_fit}
use Rattle.vx_arrow.proofs.copies.validity_in.Goals as goal
use Rattle.vx_lemmas.proofs.Results.{if_ok}

pub returns-clause-fitting : goal.returns-clause-fitting
returns-clause-fitting c =
    let b = c.in_ok-bits_in.field-0 in
    if_ok c.from_bits.result c.from_bits.ensures
    (λ v e. bits_fit b c.args.len (valid_of v) e (ap length c.in_ok-bits_in.ensures ∙ length_bits c.args.bytes.now c.args.offset c.args.len))
