-- The digits' bits stand behind those of the offset.
use Rattle.std.proofs.Common.{◌≡◌, false, length, Some, sym, ap, ◌∙◌}
use Rattle.std.proofs.lemmas.List.{length-replicate}
use Rattle.vx_json.specs.BitText.{bits_in}
use Rattle.vx_json.proofs.Reading.{read_behind, old_within}
use Rattle.vx_json.proofs.bit_text.bits_in.Goals as goal

pub finished_at-requires-clause-within : goal.finished_at-requires-clause-within
finished_at-requires-clause-within c =
    let long : length c.in_ok-bits.bits ≡ c.args.offset = ap length c.in_ok-bits.ensures ∙ length-replicate c.args.offset false in
    old_within c.in_ok-bits.bits c.args.offset long (bits_in c.args.text.now) c.append_text.new.bits c.in_ok-append_text.ensures

pub returns-clause-bits : goal.returns-clause-bits
returns-clause-bits c =
    let long : length c.in_ok-bits.bits ≡ c.args.offset = ap length c.in_ok-bits.ensures ∙ length-replicate c.args.offset false in
    read_behind c.in_ok-bits.bits c.args.offset long (bits_in c.args.text.now) c.append_text.new.bits c.in_ok-append_text.ensures ∙ ap Some (sym c.in_ok-finished_at.ensures.bits)
