-- The validity is that of as many rows as there are bits.
use Rattle.std.proofs.Common.{length, ap, ◌∙◌}
use Rattle.vx_bits.proofs.BitLists.{length_bits}
use Rattle.vx_model.specs.Valid.{is_fitting}
use Rattle.vx_column.specs.Validity.{valid_of}
use Rattle.vx_arrow.proofs.image.StepImage.filter.Goals as goal

pub of-requires : goal.of-requires
of-requires c =
    let s = c.args.self.now in
    ap (is_fitting (valid_of c.in_ok-validity.validity)) (ap length c.in_ok-bits.ensures ∙ length_bits s.values.now s.offset s.len) ∙ c.in_ok-validity.ensures.fitting
