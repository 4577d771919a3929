use Rattle.std.proofs.Common.{false, map, sym, ap, ◌∙◌}
use Rattle.std.specs.List.{range_with_len}
use Rattle.vx_bits.specs.BitBuffer.{number_of}
use Rattle.vx_take.specs.Picks.{at}
use Rattle.vx_words.specs.Takes.{pick_at}
use Rattle.vx_words.proofs.take_bits.BitPicks.word.Goals as goal

pub returns-then-count-eq64 : goal.returns-then-count-eq64
returns-then-count-eq64 c =
    c.full_word.ensures
    ∙ ap (λ n. number_of (at false c.args.self.now.src (map (pick_at c.args.self.now.indices.now c.args.self.now.valid.now) (range_with_len c.args.start n)))) (sym c.if-count-eq64.true)
