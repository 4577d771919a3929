use Rattle.std.proofs.Common.{◌≡◌, false, drop, map, take}
use Rattle.std.specs.List.{range_with_len}
use Rattle.vx_bits.specs.Words.{word_at}
use Rattle.vx_take.specs.Picks.{at}
use Rattle.vx_words.specs.Takes.{picks_at}
use Rattle.vx_words.proofs.take_bits.BitPicks.put_words.Given as goal

abbrev pub invariant-loop-i : goal.invariant-loop-i
invariant-loop-i l =
    let bits = at false l.self.src (picks_at l.self.indices.now l.self.valid.now) in
    record {
      words : take l.i l.dst ≡ map (word_at bits) (range_with_len 0 l.i);
      rest : drop l.i l.dst ≡ drop l.i l.initial.dst;
    }
