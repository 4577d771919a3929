use Rattle.std.proofs.Common.{◌≡◌, ◌+◌, ◌*◌, ◌<◌, ◌++◌, [], ◌∷◌, false, length, map, drop, sym, ap, ap₂, ◌∙◌, arith}
use Rattle.std.specs.List.{range_with_len}
use Rattle.std.proofs.lemmas.List.FromFn.{length-map-range_with_len}
use Rattle.std.proofs.lemmas.List.{drop-set-lt, length-map, take_more_set}
use Rattle.std.proofs.lemmas.Simd.{map-map}
use Rattle.vx_bits.specs.BitBuffer.{number_of}
use Rattle.vx_bits.specs.Words.{word_at, word_count}
use Rattle.vx_bits.proofs.WordsJoined.{words_to_more}
use Rattle.vx_filter.proofs.Moves.{same_further}
use Rattle.vx_take.specs.Picks.{at, item_at}
use Rattle.vx_words.specs.Takes.{pick_at, picks_at}
use Rattle.vx_words.proofs.BitWords.{word_of_places}
use Rattle.vx_words.proofs.FilterFaults.{front_and_rest}
use Rattle.vx_words.proofs.take_bits.BitPicks.put_words.Goals as goal

pub loop-i-preserved : goal.loop-i-preserved
loop-i-preserved c =
    let v = c.loop-i.invariant in
    let i = c.loop-i.i in
    let dst = c.loop-i.dst in
    let indices = c.args.self.now.indices.now in
    let pick = pick_at indices c.args.self.now.valid.now in
    let item = item_at false c.args.self.now.src in
    let bits = at false c.args.self.now.src (picks_at indices c.args.self.now.valid.now) in
    let count = c.min-count.result in
    let room : i < length dst = omega (arith, c.requires) in
    let word : c.word.result ≡ word_at bits i =
    c.word.ensures
    ∙ ap number_of (map-map item pick (range_with_len (64 * i) count))
    ∙ sym (ap (λ l. word_at l i) (map-map item pick (range_with_len 0 (length indices))) ∙ word_of_places (λ k. item (pick k)) (length indices) i count (omega arith) c.min-count.ensures) in
    record {
      words = take_more_set dst i _ room ∙ ap₂ (λ l x. l ++ x ∷ []) v.words word ∙ sym (words_to_more bits i);
      rest = drop-set-lt (i + 1) dst i _ (omega arith) ∙ same_further c.args.dst.now dst i (i + 1) (omega arith) v.rest;
    }

pub returns : goal.returns
returns c =
    let v = c.loop-i.invariant in
    let i = c.loop-i.i in
    let indices = c.args.self.now.indices.now in
    let picks = picks_at indices c.args.self.now.valid.now in
    let bits = at false c.args.self.now.src picks in
    let long : length bits ≡ length indices = length-map picks (item_at false c.args.self.now.src) ∙ length-map-range_with_len (pick_at indices c.args.self.now.valid.now) 0 (length indices) in
    let last : i ≡ word_count (length indices) = omega arith in
    let all : i ≡ word_count (length bits) = last ∙ ap word_count (sym long) in
    front_and_rest i c.loop-i.dst _ _ (v.words ∙ ap (λ n. map (word_at bits) (range_with_len 0 n)) all) (v.rest ∙ ap (λ n. drop n c.args.dst.now) last)
