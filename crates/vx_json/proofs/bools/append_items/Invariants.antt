-- What a loop over words of items keeps.
use Rattle.std.proofs.Common.{◌*◌}
use Rattle.serde_json.specs.View.{items_view}
use Rattle.vx_json.specs.Meaning.{with_read}
use Rattle.vx_json.specs.Items.{each}
use Rattle.vx_json.proofs.Reading.{IsReading}
use Rattle.vx_json.proofs.bools.append_items.Given as goal

-- what the items that are left mean, behind what was appended, is what all mean
abbrev pub invariant-loop-i : goal.invariant-loop-i
invariant-loop-i g l =
    IsReading (g.R.ReadBit.bit l.reader) l.items (64 * l.i) l.bits
    (with_read l.fn.bits (each (g.R.ReadBit.bit l.reader) (items_view l.items)))
