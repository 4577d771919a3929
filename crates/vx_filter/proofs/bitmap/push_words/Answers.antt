use Rattle.std.proofs.Common.{ℕ, ◌*◌, ◌^◌, ◌<◌, length, ap, sym, subst, ◌∙◌, arith}
use Rattle.std.specs.List.{items_where_true}
use Rattle.vx_bits.specs.Words.{word_at, word_bits}
use Rattle.vx_filter.proofs.WordItems.{items_behind, word_fits, word_pushed, word_within}
use Rattle.vx_filter.proofs.bitmap.push_words.Goals as goal

pub push_picked-requires-clause-within : goal.push_picked-requires-clause-within
push_picked-requires-clause-within g c =
    let src = c.args.src.now in
    let is = c.word.ensures ∙ ap (λ b. word_at b c.loop-w.w) (c.words-words.ensures ∙ ap (λ b. b.bits) c.bits.ensures) in
    subst (λ (n : ℕ). c.word.result < 2 ^ n) (ap length (sym (items_behind src (64 * c.loop-w.w)))) (word_within c.args.mask.now.bits.bits c.loop-w.w c.word.result src c.requires.all_there is)

pub push_picked-requires-clause-room : goal.push_picked-requires-clause-room
push_picked-requires-clause-room g c =
    let v = c.loop-w.invariant in
    let is = c.word.ensures ∙ ap (λ b. word_at b c.loop-w.w) (c.words-words.ensures ∙ ap (λ b. b.bits) c.bits.ensures) in
    omega (arith, word_fits c.args.mask.now.bits.bits c.args.src.now c.loop-w.kept.items c.loop-w.w c.word.result c.requires.all_there is v.items, v.room, c.loop-w.kept.ok.0)

pub loop-w-preserved : goal.loop-w-preserved
loop-w-preserved g c =
    let v = c.loop-w.invariant in
    let src = c.args.src.now in
    let is = c.word.ensures ∙ ap (λ b. word_at b c.loop-w.w) (c.words-words.ensures ∙ ap (λ b. b.bits) c.bits.ensures) in
    let behind = ap (items_where_true (word_bits c.word.result 64)) (items_behind src (64 * c.loop-w.w)) in
    record {
      items = word_pushed c.args.mask.now.bits.bits src c.loop-w.kept.items _ _ c.loop-w.w c.word.result (omega arith) is v.items behind c.in_ok-push_picked.ensures.items;
      room = omega (arith, c.in_ok-push_picked.ensures.capacity, v.room);
    }
