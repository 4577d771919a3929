-- The texts at the picks before the one at hand.
use Rattle.std.proofs.Common.{[], take}
use Rattle.vx_mask.specs.Mask.{mask_bits}
use Rattle.vx_take.specs.Picks.{at}
use Rattle.vx_offsets.specs.Offsets.{lists_at, offset_positions, record_numbers}
use Rattle.vx_model.specs.Text.{kept_texts}
use Rattle.vx_text.specs.Building.{AreTexts}
use Rattle.vx_text.proofs.picked_texts.texts_at.Given as goal

abbrev pub invariant-loop-i : goal.invariant-loop-i
invariant-loop-i g l =
    AreTexts l.ptype l.texts.offsets l.texts.bytes.items
    (kept_texts (take l.i (mask_bits l.present)) (at [] (lists_at (offset_positions (record_numbers l.ptype l.records)) l.bytes) (take l.i l.picks.picks)))
