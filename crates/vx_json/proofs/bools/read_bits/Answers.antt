-- The items' bits stand behind those of the offset.
use Rattle.std.proofs.Common.{◌≡◌, false, length, Some, sym, ap, ◌∙◌}
use Rattle.std.proofs.lemmas.List.{length-replicate}
use Rattle.serde_json.specs.View.{items_view}
use Rattle.vx_json.specs.Items.{each}
use Rattle.vx_json.proofs.Reading.{read_behind, old_within}
use Rattle.vx_json.proofs.bools.read_bits.Goals as goal

pub finished_at-requires-clause-within : goal.finished_at-requires-clause-within
finished_at-requires-clause-within g c =
    let long : length c.in_ok-bits.bits ≡ c.args.offset = ap length c.in_ok-bits.ensures ∙ length-replicate c.args.offset false in
    old_within c.in_ok-bits.bits c.args.offset long (each (g.R.ReadBit.bit c.args.reader.now) (items_view c.args.items.now)) c.append_items.new.bits c.in_ok-append_items.ensures

pub returns-clause-bits : goal.returns-clause-bits
returns-clause-bits g c =
    let long : length c.in_ok-bits.bits ≡ c.args.offset = ap length c.in_ok-bits.ensures ∙ length-replicate c.args.offset false in
    read_behind c.in_ok-bits.bits c.args.offset long (each (g.R.ReadBit.bit c.args.reader.now) (items_view c.args.items.now)) c.append_items.new.bits c.in_ok-append_items.ensures ∙ ap Some (sym c.in_ok-finished_at.ensures.bits)
