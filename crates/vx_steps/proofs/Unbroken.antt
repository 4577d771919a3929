-- What a step that is not broken says, and a walk that has a count.
use Rattle.std.proofs.Common.{◌≡◌, ℕ, ◌≤◌, Bool, true, false, List, length, None, Some, ◌∙◌, arith}
use Rattle.std.specs.Prelude.{◌==◌, if◌then◌else◌}
use Rattle.std.proofs.lemmas.Bool.Decides.{nat_tests}
use Rattle.vx_model.specs.Column.{Column}
use Rattle.vx_column.specs.Truth.{true_bits}
use Rattle.vx_reading.specs.BoolRows.{is_bool_type}
use Rattle.vx_reading.proofs.TruthBits.{length-true_bits}
use Rattle.vx_steps.specs.Check.{HasCount}
use Rattle.vx_steps.specs.Compose.{IsUnbroken}
use Rattle.vx_steps.specs.Step.{slice_step, filter_step, filter_by_step}
use Rattle.vx_steps.specs.Walk.{Walk, broken, walk_fault, walk_picks}
use Rattle.vx_steps.specs.declared.cause.Cause.TheVariants.{BadMask, NotBool}

-- a slice is within the rows
pub within_slice : (s e n : ℕ) → broken (slice_step s e) n ≡ None → (s ≤ e) × (e ≤ n)
within_slice s e n sound = grind (arith, nat_tests)

-- a mask is as long as there are rows
pub long_mask : (bits : List Bool) (n : ℕ) → broken (filter_step bits) n ≡ None → length bits ≡ n
long_mask bits n sound = grind (arith, nat_tests)

-- and so is a column of bools
pub long_column : (column : Column) (n : ℕ) → broken (filter_by_step column) n ≡ None → length (true_bits column) ≡ n
long_column column n sound = length-true_bits column ∙ by_type (is_bool_type column.dtype) (length column.rows) n sound
  where
    by_type : (typed : Bool) (m n : ℕ) → (if typed then (if m == n then None else Some (BadMask m n)) else Some NotBool) ≡ None → m ≡ n
    by_type true m n h = grind (arith, nat_tests)
    by_type false m n h = cc

-- a walk that has a count is unbroken
pub counted_walk : (w : Walk) (n : ℕ) → HasCount w n → IsUnbroken w
counted_walk (walk_fault k cause) n h = absurd h
counted_walk (walk_picks picks) n h = tt
