-- What a loop over words keeps.
use Rattle.std.proofs.Common.{◌≡◌, ◌*◌, drop}
use Rattle.vx_json.specs.Meaning.{with_read}
use Rattle.vx_json.specs.BitText.{bits_in}
use Rattle.vx_json.proofs.bit_text.append_words.Given as goal

-- what the digits that are left mean, behind what was appended, is what all mean
abbrev pub invariant-loop-i : goal.invariant-loop-i
invariant-loop-i l = with_read l.bits (bits_in (drop (64 * l.i) l.text)) ≡ with_read l.fn.bits (bits_in l.text)
