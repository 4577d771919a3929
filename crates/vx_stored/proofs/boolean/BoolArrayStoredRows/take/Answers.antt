-- The parts at the picks make the column at the picks.
use Rattle.std.proofs.Common.{◌≡◌, false, ap, ◌∙◌}
use Rattle.vx_bits.specs.BitBuffer.{PlacedBits}
use Rattle.vx_take.specs.Picks.{at}
use Rattle.vx_model.specs.Valid.{nullability_by}
use Rattle.vx_model.specs.Bool.{bool_column, bool_with}
use Rattle.vx_model.proofs.Takes.{is_take-bool}
use Rattle.vx_column.specs.Validity.{valid_of}
use Rattle.vx_stored.proofs.boolean.BoolArrayStoredRows.take.Goals as goal

pub returns : goal.returns
returns c =
    let p = c.args.self.now in let v = valid_of c.args.valid in let picks = c.args.picks.now.picks in
    let taken : c.in_ok-bits.bits ≡ record { bits = at false p.bits.bits picks; offset = 0 } =
    c.in_ok-bits.ensures ∙ ap (λ (b : PlacedBits). let k : PlacedBits = record { bits = at false b.bits picks; offset = 0 } in k) c.bits.ensures.bits in
    rw (c.into_array.ensures ∙ ap bool_column (c.of.ensures ∙ ap (λ (b : PlacedBits). bool_with b.bits b.offset v) taken))
    (is_take-bool v picks (nullability_by v) p 0 c.bits.ensures.valid c.requires.left)
