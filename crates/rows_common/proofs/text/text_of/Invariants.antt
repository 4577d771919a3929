use Rattle.std.proofs.Common.{◌≡◌, if◌then◌else◌, map, take}
use Rattle.std.specs.Prelude.{string_bytes}
use Rattle.rows_common.proofs.text.text_of.Given as goal

abbrev pub invariant-loop-i : goal.invariant-loop-i
invariant-loop-i l = string_bytes l.text ≡ map (λ b. if b then 49 else 48) (take l.i l.bits.bits)
