-- The words so far.
use Rattle.std.proofs.Common.{◌≡◌, ℕ, ◌<◌, false, get_or}
use Rattle.vx_bits.specs.Words.{word_at}
use Rattle.vx_cuts.specs.Interleaving.{items_at}
use Rattle.vx_cuts.specs.Bits.{bits_in}
use Rattle.vx_cuts.proofs.bits.put_words.Given as goal

abbrev pub invariant-loop-i : goal.invariant-loop-i
invariant-loop-i l = (j : ℕ) → j < l.i → get_or l.dst j 0 ≡ word_at (items_at false (bits_in l.lists) l.parts l.rows) j
