-- One text more is put out.
use Rattle.std.proofs.Common.{rules, ◌<◌, ◌≤◌, ◌++◌, [], ◌∷◌, ℕ, List, length, take, sym, ap, subst, ◌∙◌}
use Rattle.vx_mask.specs.Mask.{mask_bits}
use Rattle.vx_take.specs.Picks.{at, item_at}
use Rattle.vx_offsets.specs.Offsets.{lists_at, offset_positions, record_numbers}
use Rattle.vx_model.specs.Text.{kept_texts}
use Rattle.vx_text.specs.Building.{AreTexts}
use Rattle.vx_text.proofs.BuiltTexts.{kept_all, kept_more, one_text}
use Rattle.vx_text.proofs.PickedRows.{next_row}
use Rattle.vx_text.proofs.picked_texts.texts_at.Goals as goal

pub text_at-requires : goal.text_at-requires
text_at-requires g c =
    let row = next_row c.shown_pick-pick.result c.args.picks.now.bound (length c.args.records.now) c.shown_pick-pick.ensures.below c.requires.bound in
    (search rules, (c.requires.int, (c.requires.width, (c.requires.offsets, row))))

pub loop-i-preserved : goal.loop-i-preserved
loop-i-preserved g c =
    let picks = c.args.picks.now.picks in let bits = mask_bits c.args.present.now in let i = c.loop-i.i in
    let texts = lists_at (offset_positions (record_numbers c.args.ptype c.args.records.now)) c.args.bytes.now in
    let inside : i < length picks = search rules in
    let text = c.text_at.ensures ∙ ap (item_at [] texts) c.shown_pick-pick.ensures.value in
    subst (λ (l : List (List ℕ)). AreTexts c.args.ptype c.push.new.self.offsets c.push.new.self.bytes.items l)
    (ap (λ (x : List ℕ). kept_texts (take i bits) (at [] texts (take i picks)) ++ x ∷ []) text ∙ sym (kept_more texts bits picks i inside c.requires.long))
    (one_text c.args.ptype c.loop-i.texts.offsets c.push.new.self.offsets c.loop-i.texts.bytes.items c.push.new.self.bytes.items c.text_at.result.now _ c.loop-i.invariant c.in_ok-push.ensures.short c.in_ok-push.ensures.bytes c.in_ok-push.ensures.offsets)

pub returns : goal.returns
returns g c =
    let picks = c.args.picks.now.picks in let bits = mask_bits c.args.present.now in let i = c.loop-i.i in
    let texts = lists_at (offset_positions (record_numbers c.args.ptype c.args.records.now)) c.args.bytes.now in
    let ended : length picks ≤ i = search rules in
    subst (λ (l : List (List ℕ)). AreTexts c.args.ptype c.loop-i.texts.offsets c.loop-i.texts.bytes.items l) (kept_all texts bits picks i ended c.requires.long) c.loop-i.invariant
