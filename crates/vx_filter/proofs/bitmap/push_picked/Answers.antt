use Rattle.std.proofs.Common.{◌++◌, ◌<◌, ◌^◌, ◌∙◌, ap, sym, length, append-nil, subst}
use Rattle.std.proofs.lemmas.List.{length-take-le}
use Rattle.vx_bits.proofs.WordLists.{picked_full_word, picked_no_word}
use Rattle.vx_filter.proofs.WordItems.{full_within}
use Rattle.vx_filter.proofs.bitmap.push_picked.Goals as goal

pub slice_bounds-extend_from_slice-end : goal.slice_bounds-extend_from_slice-end
slice_bounds-extend_from_slice-end g c =
    sym (length-take-le 64 c.args.items.now (full_within (length c.args.items.now) (subst (λ n. n < 2 ^ length c.args.items.now) c.if-word-eq18446744073709551615.true c.requires.within)))

pub returns-in_ok-extend_from_slice-clause-items : goal.returns-in_ok-extend_from_slice-clause-items
returns-in_ok-extend_from_slice-clause-items g c =
    c.in_ok-extend_from_slice.ensures.items ∙ ap (λ l. c.args.kept.now.items ++ l) (sym (picked_full_word c.args.word c.args.items.now c.if-word-eq18446744073709551615.true))

pub returns-else-word-ne0-clause-items : goal.returns-else-word-ne0-clause-items
returns-else-word-ne0-clause-items g c =
    sym (append-nil c.args.kept.now.items) ∙ sym (ap (λ l. c.args.kept.now.items ++ l) (picked_no_word c.args.word c.args.items.now c.if-word-ne0.false))
