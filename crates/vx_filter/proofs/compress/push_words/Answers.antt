use Rattle.std.proofs.Common.{ℕ, ◌*◌, ◌^◌, ◌<◌, ◌≤◌, length, ap, sym, subst, ◌∙◌, arith}
use Rattle.std.specs.List.{items_where_true}
use Rattle.std.specs.Vec.{vec_capacity}
use Rattle.vx_bits.specs.Words.{word_at, word_bits}
use Rattle.vx_filter.proofs.Bytes.{first_picked}
use Rattle.vx_filter.proofs.WordItems.{items_behind, word_fits, word_pushed, word_within}
use Rattle.vx_filter.proofs.compress.push_words.Goals.{then-pays_by_bytes, else-pays_by_bytes+in_ok-push_picked}
use Rattle.vx_filter.proofs.compress.push_words.Goals as goal

pub push_bytes-requires-clause-room : goal.push_bytes-requires-clause-room
push_bytes-requires-clause-room g c =
    let v = c.loop-w.invariant in
    let is = c.word-word.ensures ∙ ap (λ b. word_at b c.loop-w.w) (c.words-words.ensures ∙ ap (λ b. b.bits) c.bits.ensures) in
    omega (arith, word_fits c.args.mask.now.bits.bits c.args.src.now c.loop-w.kept.items c.loop-w.w c.word-word.result c.requires.all_there is v.items, v.room, c.loop-w.kept.ok.0)

pub push_picked-requires-clause-within : goal.push_picked-requires-clause-within
push_picked-requires-clause-within g c =
    let src = c.args.src.now in
    let is = c.word-word.ensures ∙ ap (λ b. word_at b c.loop-w.w) (c.words-words.ensures ∙ ap (λ b. b.bits) c.bits.ensures) in
    subst (λ (n : ℕ). c.word-word.result < 2 ^ n) (ap length (sym (items_behind src (64 * c.loop-w.w)))) (word_within c.args.mask.now.bits.bits c.loop-w.w c.word-word.result src c.requires.all_there is)

pub push_picked-requires-clause-room : goal.push_picked-requires-clause-room
push_picked-requires-clause-room g c =
    let v = c.loop-w.invariant in
    let is = c.word-word.ensures ∙ ap (λ b. word_at b c.loop-w.w) (c.words-words.ensures ∙ ap (λ b. b.bits) c.bits.ensures) in
    omega (arith, word_fits c.args.mask.now.bits.bits c.args.src.now c.loop-w.kept.items c.loop-w.w c.word-word.result c.requires.all_there is v.items, v.room, c.loop-w.kept.ok.0)

pub loop-w-preserved : goal.loop-w-preserved
loop-w-preserved g c =
    let v = c.loop-w.invariant in
    let w = c.loop-w.w in
    let src = c.args.src.now in
    let word = c.word-word.result in
    let is = c.word-word.ensures ∙ ap (λ b. word_at b w) (c.words-words.ensures ∙ ap (λ b. b.bits) c.bits.ensures) in
    let whole = items_behind src (64 * w) in
    let bits = c.args.mask.now.bits.bits in
    let within : 64 * w ≤ length bits = omega arith in
    elim c.if-pays_by_bytes.branch [
      | then-pays_by_bytes u ↦ record {
        items = word_pushed bits src c.loop-w.kept.items _ _ w word within is v.items (first_picked word src (64 * w) (omega (arith, u.if-pays_by_bytes.ensures))) (ap (λ k. k.items) u.kept-is ∙ u.push_bytes.ensures.items);
        room = omega (arith, ap (λ k. vec_capacity k) u.kept-is, u.push_bytes.ensures.capacity, v.room);
      }
      | else-pays_by_bytes+in_ok-push_picked u ↦ record {
        items = word_pushed bits src c.loop-w.kept.items _ _ w word within is v.items (ap (items_where_true (word_bits word 64)) whole) (ap (λ k. k.items) u.kept-is ∙ u.in_ok-push_picked.ensures.items);
        room = omega (arith, ap (λ k. vec_capacity k) u.kept-is, u.in_ok-push_picked.ensures.capacity, v.room);
      }
    ]
