-- Words that are numbers.
use Rattle.std.proofs.Common.{◌≡◌, ℕ, ◌^◌, ◌<◌, Bool, true, false, List, length, None, Some, refl, arith}
use Rattle.std.specs.Prelude.{◌&&◌, nat_le, nat_lt, if◌then◌else◌}
use Rattle.std.specs.Str.{all_ascii_digits}
use Rattle.std.specs.Str.Parse.{digits_value, ParsesUnsigned}
use Rattle.std.proofs.lemmas.Bool.Decides.{nat_tests}
use Rattle.std.proofs.lemmas.Str.Parse.{numerals_by_value, parse_digits, tells_all_ascii_digits}
use Rattle.std.proofs.Common.{Err}
use Rattle.vx_rows.specs.Commands.{number_named}

not_all : (a b c d : Bool) (n : ℕ) → (b ≡ true → d ≡ true → ⊥) → None ≡ (if a && (b && c) && d then Some n else None)
not_all false b c d n h = refl
not_all true false c d n h = refl
not_all true true false d n h = refl
not_all true true true false n h = refl
not_all true true true true n h = absurd (h refl refl)

-- digits that `parse` refuses name no number
pub refused : {E : Type 0} (word : List ℕ) (e : E) → ParsesUnsigned 32 10 word (Err e) → all_ascii_digits word ≡ true → None ≡ number_named word
unfolding number_named
refused word e h digits =
    let no : (0 < length word) × (digits_value 10 word < 2 ^ 32) → ⊥ = parse_digits (numerals_by_value _ tells_all_ascii_digits) 32 word (Err e) h digits in
    not_all (all_ascii_digits word) (nat_le 1 (length word)) (nat_le (length word) 10) (nat_lt (digits_value 10 word) (2 ^ 32)) (digits_value 10 word)
    (λ b d. no (grind (arith, nat_tests), grind (arith, nat_tests)))
