use Rattle.std.proofs.Common.{◌+◌, map, ap, ◌∙◌}
use Rattle.vx_chunked.specs.Positions.{positions_from}
use Rattle.vx_chunked.proofs.Handed.{all_positions}
use Rattle.vx_chunked.proofs.bits.BitCursor.new.Goals as goal

pub returns : goal.returns
returns c =
    ap (λ b. map (λ i. c.args.offset + i) (positions_from 0 b.bits)) c.bits.ensures
    ∙ ap (map (λ i. c.args.offset + i)) (all_positions c.args.mask.now.bits.bits)
