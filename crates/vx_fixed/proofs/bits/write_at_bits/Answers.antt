use Rattle.std.proofs.Common.{◌≡◌, ◌+◌, ◌*◌, ◌≤◌, ◌++◌, ℕ, List, length, take, sym, ap, ◌∙◌, subst, arith, refl, length-append}
use Rattle.std.specs.Int.RustNames.{count_ones}
use Rattle.vx_bits.specs.BitBuffer.{true_count_of}
use Rattle.vx_bits.specs.Words.{word_at, word_bits}
use Rattle.vx_bits.proofs.WordBits.{true_count_of-word_bits}
use Rattle.vx_mask.specs.Positions.{positions, set_of}
use Rattle.vx_mask.proofs.PositionLists.{length-positions}
use Rattle.vx_mask.proofs.WordPositions.{word_fits, word_pushed}
use Rattle.vx_fixed.specs.Rows.{ArePut}
use Rattle.vx_fixed.proofs.Rows.{none_put, times_mono, word_there}
use Rattle.vx_fixed.proofs.bits.write_at_bits.Goals as goal

pub loop-w-init : goal.loop-w-init
loop-w-init g c = record { put = none_put g.row.W c.args.src.now c.args.from c.args.out.now; count = refl }

pub put_picked-kept-requires-clause-there : goal.put_picked-kept-requires-clause-there
put_picked-kept-requires-clause-there g c =
    let e : c.word.result ≡ word_at c.args.bits.now.bits c.loop-w.w = c.word.ensures ∙ ap (λ l. word_at l c.loop-w.w) c.words-words.ensures in
    word_there g.row.W c.args.src.now c.args.from c.args.bits.now.bits c.loop-w.w c.word.result (omega (arith, c.len.ensures, c.div_ceil-w-end.ensures)) e c.requires.there

pub put_picked-kept-requires-clause-room : goal.put_picked-kept-requires-clause-room
put_picked-kept-requires-clause-room g c =
    let bits = c.args.bits.now.bits in
    let e : c.word.result ≡ word_at bits c.loop-w.w = c.word.ensures ∙ ap (λ l. word_at l c.loop-w.w) c.words-words.ensures in
    let fits = word_fits bits (set_of (take (64 * c.loop-w.w) bits)) c.loop-w.w c.word.result e refl in
    omega (arith, times_mono (c.loop-w.kept + count_ones c.word.result) (true_count_of bits) g.row.W (omega (arith, fits, c.loop-w.invariant.count)), c.requires.room, c.loop-w.auto.out)

pub loop-w-preserved : goal.loop-w-preserved
loop-w-preserved g c =
    let v = c.loop-w.invariant in
    let bits = c.args.bits.now.bits in
    let w = c.loop-w.w in
    let word = c.word.result in
    let before = set_of (take (64 * w) bits) in
    let own = positions (64 * w) (word_bits word 64) in
    let e : word ≡ word_at bits w = c.word.ensures ∙ ap (λ l. word_at l w) c.words-words.ensures in
    let low : 64 * w ≤ length bits = omega (arith, c.len.ensures, c.div_ceil-w-end.ensures) in
    let all : before ++ own ≡ set_of (take (64 * (w + 1)) bits) = word_pushed bits before (before ++ own) w word low e refl refl in
    record {
      put = subst (λ (l : List ℕ). ArePut g.row.W c.args.src.now c.args.from l c.args.out.now c.put_picked-kept.new.out) all
          (c.put_picked-kept.ensures.put c.args.out.now before (sym v.count) v.put);
      count = omega (arith, c.put_picked-kept.ensures.count, v.count, ap length (sym all), length-append before own, length-positions (64 * w) (word_bits word 64), true_count_of-word_bits word 64 (omega arith));
    }
