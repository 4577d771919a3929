-- One word more.
use Rattle.std.proofs.Common.{◌≡◌, false, length, sym, ap, ◌∙◌, arith}
use Rattle.std.proofs.lemmas.List.FromFn.{length-map-range_with_len}
use Rattle.vx_bits.specs.Words.{word_at, word_count}
use Rattle.vx_words.proofs.BitWords.{word_of_places}
use Rattle.vx_cuts.specs.Interleaving.{item_at, items_at}
use Rattle.vx_cuts.specs.Bits.{bits_in}
use Rattle.vx_cuts.proofs.Filled.{filled_all, filled_more}
use Rattle.vx_cuts.proofs.bits.put_words.Goals as goal

pub loop-i-preserved : goal.loop-i-preserved
loop-i-preserved c =
    let parts = c.args.parts.now in
    let bit = item_at false (bits_in c.args.lists.now) parts c.args.rows.now in
    let bits = items_at false (bits_in c.args.lists.now) parts c.args.rows.now in
    let i = c.loop-i.i in
    let is = c.word.ensures ∙ sym (word_of_places bit (length parts) i c.min-count.result (omega arith) c.min-count.ensures) in
    filled_more (word_at bits) c.loop-i.dst i _ 0 (omega (arith, c.requires.room)) is c.loop-i.invariant

pub returns : goal.returns
returns c =
    let parts = c.args.parts.now in
    let bits = items_at false (bits_in c.args.lists.now) parts c.args.rows.now in
    let long : length bits ≡ length parts = length-map-range_with_len (item_at false (bits_in c.args.lists.now) parts c.args.rows.now) 0 (length parts) in
    let count : word_count (length bits) ≡ word_count (length parts) = ap word_count long in
    filled_all (word_at bits) c.loop-i.dst (word_count (length bits)) c.loop-i.i 0 (omega (arith, count, c.requires.room)) (omega (arith, count)) c.loop-i.invariant
