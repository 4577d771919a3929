-- The three columns are of one length and of 64 bits.
use Rattle.std.proofs.Common.{sym, ◌∙◌}
use Rattle.vx_arrow.specs.Image.{step_parts}
use Rattle.vx_arrow.proofs.MeantSteps.{pieces_sound}
use Rattle.vx_arrow.proofs.image.StepImage.take_pieces.Goals as goal
use Rattle.vx_bits.proofs.Results.{no_refusal}

pub unreachable-requires : goal.unreachable-requires
unreachable-requires c =
    let s = step_parts c.args.self.now in
    no_refusal _ _ _
    (pieces_sound s s.values s.lengths s.multipliers s.declared c.in_ok-starts.starts c.in_ok-lengths.lengths c.in_ok-multipliers.multipliers c.in_ok-starts.ensures c.in_ok-lengths.ensures c.in_ok-multipliers.ensures)
    (sym c.in-Err.is ∙ c.try_new.ensures)
