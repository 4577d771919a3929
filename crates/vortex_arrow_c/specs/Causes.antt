-- The numbers of an invalid step.
use Rattle.std.specs.Prelude.{◌≡◌, ℕ, ◌+◌, ◌*◌, ◌/◌, ◌-◌, ◌^◌, ◌==◌, min, nat_lt, length, List, map, take, drop, sum, Option, Some, None, ℤ, pos, negsuc, unsigned_abs, slice_get, if◌then◌else◌}
use Rattle.std.specs.Int.{from_le_bytes, w64}
use Rattle.std.specs.List.{range_with_len}
use Rattle.vx_steps.specs.declared.cause.Cause.{Cause}
use Rattle.vx_steps.specs.declared.cause.Cause.TheVariants as causes
use Rattle.vx_arrow.specs.declared.refusal.Refusal.{Refusal}
use Rattle.vx_arrow.specs.declared.refusal.Refusal.TheVariants as refusals
use Rattle.vx_arrow.specs.Answer.{IsRefusal}
use Rattle.vx_arrow.specs.Image.{StepParts}
use Rattle.vortex_arrow_c.specs.declared.causes.CauseAnswer.{CauseAnswer}
use Rattle.vortex_arrow_c.specs.declared.causes.Numbers.{Numbers}
use Rattle.vortex_arrow_c.specs.Steps.{cause_code, step_lack_code}

-- number k of a list of 8 bytes each; 0 past its end
abbrev pub wide_at : List ℕ → ℕ → ℕ
wide_at bytes k =
    if nat_lt k (length bytes / 8) then from_le_bytes w64 (take 8 (drop (8 * k) bytes)) else 0

-- 64 bits hold no more
abbrev pub capped : ℕ → ℕ
capped n = min n (2 ^ 64 - 1)

-- how many indices the ranges of a step have together
abbrev pub indices_of : StepParts → ℕ
indices_of s = sum (map (wide_at s.lengths) (range_with_len s.offset s.len))

abbrev pub is_negative : ℤ → ℕ
is_negative (pos n) = 0
is_negative (negsuc n) = 1

abbrev pub numbers : ℕ → ℕ → ℕ → Numbers
numbers found bound is_negative =
    record { found = found; bound = bound; is_negative = is_negative }

-- the indices that ranges have, and those that are declared; none where these are equal
abbrev pub range_numbers : Option StepParts → Numbers
range_numbers None = numbers 0 0 0
range_numbers (Some s) =
    if capped (indices_of s) == s.declared then numbers 0 0 0
    else numbers (capped (indices_of s)) s.declared 0

-- the number that is wrong, and the one that it should be or should not pass
abbrev pub numbers_of : Option StepParts → Cause → Numbers
numbers_of s (causes.BadRange start end len) =
    if nat_lt len end then numbers end len 0 else numbers start end 0
numbers_of s (causes.BadMask mask_len len) = numbers mask_len len 0
numbers_of s causes.NotBool = numbers 0 0 0
numbers_of s causes.InvalidIndices = numbers 0 0 0
numbers_of s causes.BadPieces = range_numbers s
numbers_of s (causes.OutOfBounds index len) =
    numbers (capped (unsigned_abs index)) len (is_negative index)

abbrev pub caused : ℕ → ℕ → ℕ → Numbers → CauseAnswer
caused status step what numbers =
    record { status = status; step = step; what = what; numbers = numbers }

abbrev pub cause_answer : List StepParts → Refusal → CauseAnswer
cause_answer steps (refusals.Lacking lacking) =
    caused 7 lacking.step (step_lack_code lacking.lack) (numbers 0 0 0)
cause_answer steps (refusals.Broken k cause) =
    caused 6 k (cause_code cause) (numbers_of (slice_get steps k) cause)
cause_answer steps (refusals.Room need) = caused 3 0 0 (numbers 0 0 0)
cause_answer steps refusals.NoMemory = caused 5 0 0 (numbers 0 0 0)

-- the answer tells why the steps are refused, which comes for its reason alone
pub record AreCaused (n : ℕ) (steps : List StepParts) (a : CauseAnswer) : Type 0 where
  pub refusal : Refusal
  pub why : IsRefusal n steps (λ _. ⊥) refusal
  pub told : a ≡ cause_answer steps refusal
