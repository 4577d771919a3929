use Rattle.std.proofs.Common.{◌≡◌, ℕ, ◌+◌, ◌-◌, List, Some, slice_get, length, map, take, drop, ap, ap₂, ◌∙◌, arith}
use Rattle.std.specs.List.{items_where_true}
use Rattle.vx_bits.specs.BitBuffer.{true_count_of}
use Rattle.vx_bits.specs.Words.{word_count}
use Rattle.vx_filter.specs.Compact.{bits_of_words}
use Rattle.vx_mask.proofs.PositionLists.{length-positions}
use Rattle.std.proofs.lemmas.List.{length-take-le}
use Rattle.vx_chunked.specs.Positions.{places_of_words}
use Rattle.vx_chunked.proofs.Marks.{compacted_read}
use Rattle.vx_chunked.proofs.bits.copy_bits.Goals as goal
use Rattle.vx_chunked.proofs.bits.copy_bits.Goals.{After-div_ceil}

-- how many places there are
room : (g : _) (c : After-div_ceil g) → true_count_of (bits_of_words (take c.div_ceil.result c.args.front.now.words)) ≡ length c.args.dst.now
room g c =
    let front = c.args.front.now in
    ap (λ n. true_count_of (bits_of_words (take n front.words))) c.div_ceil.ensures
    ∙ omega (arith, length-positions front.from (bits_of_words (take (word_count front.len) front.words)), c.requires.room)

-- what was compacted, by whichever way, is what stands at the places
copied : (g : _) (c : After-div_ceil g) (used : ℕ) (dst : List g.row.T.Denot) → length dst ≡ length c.args.dst.now → used ≡ true_count_of (bits_of_words (take c.div_ceil.result c.args.front.now.words)) → take used dst ≡ items_where_true (bits_of_words (take c.div_ceil.result c.args.front.now.words)) (take (c.args.front.now.from + c.args.front.now.len - c.args.front.now.from) (drop c.args.front.now.from c.args.values.now)) → map Some dst ≡ map (slice_get c.args.values.now) (places_of_words c.args.front.now.from c.args.front.now.len c.args.front.now.words)
copied g c used dst same count items =
    let front = c.args.front.now in
    let values = c.args.values.now in
    let words = take (word_count front.len) front.words in
    let width : front.from + front.len - front.from ≡ front.len = omega arith in
    let long : length words ≡ word_count front.len = length-take-le (word_count front.len) front.words (omega (arith, front.fits)) in
    compacted_read values dst words front.from front.len used (omega (arith, front.fits, c.requires.chunk)) (omega (arith, long))
    (λ k from to. front.clear k from (omega (arith, to, long)))
    (same ∙ c.requires.room)
    (count ∙ ap (λ n. true_count_of (bits_of_words (take n front.words))) c.div_ceil.ensures)
    (items ∙ ap₂ (λ n m. items_where_true (bits_of_words (take n front.words)) (take m (drop front.from values))) c.div_ceil.ensures width)

pub compact_runs-requires-clause-room : goal.compact_runs-requires-clause-room
compact_runs-requires-clause-room g c = omega (arith, room g (goal.at.compact_runs-requires-clause-room g c).After-div_ceil)

pub returns-then-has_long_runs : goal.returns-then-has_long_runs
returns-then-has_long_runs g c = copied g (goal.at.returns-then-has_long_runs g c).After-div_ceil c.compact_runs.result c.compact_runs.new.dst (omega arith) c.compact_runs.ensures.count c.compact_runs.ensures.front

pub compact_words-requires-clause-room : goal.compact_words-requires-clause-room
compact_words-requires-clause-room g c = omega (arith, room g (goal.at.compact_words-requires-clause-room g c).After-div_ceil)

pub returns-else-has_long_runs : goal.returns-else-has_long_runs
returns-else-has_long_runs g c = copied g (goal.at.returns-else-has_long_runs g c).After-div_ceil c.compact_words.result c.compact_words.new.dst (omega arith) c.compact_words.ensures.count c.compact_words.ensures.front
