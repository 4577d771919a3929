use Rattle.std.proofs.Common.{◌≡◌, ◌-◌, ◌*◌, ◌^◌, false, map}
use Rattle.std.specs.List.{range_with_len}
use Rattle.vx_bits.specs.BitBuffer.{number_of}
use Rattle.vx_take.specs.Picks.{at}
use Rattle.vx_words.specs.Takes.{pick_at}
use Rattle.vx_words.proofs.take_bits.BitPicks.full_word.Given as goal

abbrev pub invariant-loop-j : goal.invariant-loop-j
invariant-loop-j l =
    let picks = map (pick_at l.self.indices.now l.self.valid.now) (range_with_len l.start (4 * l.j)) in
    l.top ≡ number_of (at false l.self.src picks) * 2 ^ (64 - 4 * l.j)
