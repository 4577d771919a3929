use Rattle.std.proofs.Common.{◌≡◌, ◌*◌, ◌++◌, take}
use Rattle.vx_print.specs.Text.{bit_text, lines}
use Rattle.vx_print.proofs.bits.push_bits.Given as goal

-- the lines of the bits of the first k words stand behind what was there
abbrev pub invariant-loop-k : goal.invariant-loop-k
invariant-loop-k l = l.text.items ≡ l.initial.text.items ++ lines bit_text (take (64 * l.k) l.bits.bits)
