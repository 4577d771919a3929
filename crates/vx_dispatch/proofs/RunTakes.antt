-- A validity that is a constant form, at the numbers of a sequence.
use Rattle.std.proofs.Common.{◌≡◌, ℕ, true, false, List, ◌+◌, ◌≤◌, map, length, Some, refl, sym, ◌∙◌}
use Rattle.std.specs.Prelude.{All}
use Rattle.vx_types.specs.Nullability.{either_nullable}
use Rattle.vx_types.specs.RowValue.{null}
use Rattle.vx_model.specs.Column.{Column}
use Rattle.vx_model.specs.Step.{IsStep, IsTake}
use Rattle.vx_types.specs.declared.nullability.Nullability.TheVariants.{NonNullable}
use Rattle.vx_take.specs.Picks.{AreBelow, at, in_runs, run_places}
use Rattle.vx_model.specs.Valid.{Valid, non_nullable, all_valid, all_invalid, by_column, cover_by, is_constant_form, nullability_by, present_bits, IsLeft}
use Rattle.vx_model.proofs.Takes.{is_left-take-none, left_the_same}
use Rattle.vx_model.proofs.Validities.{constant-by_column}
use Rattle.vx_pieces.proofs.RunLists.{in_runs-within}
use Rattle.vx_pieces.proofs.PieceLists.{all_there-numbers}
use Rattle.vx_model.proofs.Nullabilities.{also_nullable-none}

-- it stays what it is
pub left-constant : (v : Valid) (n : ℕ) (numbers : List ℕ) → is_constant_form (cover_by v) ≡ true → AreBelow (map (λ x. Some x) numbers) n → IsLeft v (either_nullable (nullability_by v) NonNullable) (at false (present_bits v n) (map (λ x. Some x) numbers)) v
left-constant non_nullable n numbers h none =
    left_the_same non_nullable non_nullable NonNullable n _ refl (λ k. refl) (λ k. refl) refl none (all_there-numbers numbers) refl
left-constant all_valid n numbers h none =
    left_the_same all_valid all_valid NonNullable n _ refl (λ k. refl) (λ k. refl) refl none (all_there-numbers numbers) refl
left-constant all_invalid n numbers h none = is_left-take-none NonNullable n _
left-constant (by_column c) n numbers h none = let no = constant-by_column c h in cc

-- ---- a take at the numbers in runs, none of them a null

pub runs_step : (c : Column) (runs : List (ℕ × ℕ)) (a : Column) → All (λ run. run.0 + run.1 ≤ length c.rows) runs → IsTake c (map (λ x. Some x) (run_places runs)) NonNullable a → IsStep c (in_runs c.rows runs) c.dtype a
runs_step c runs a within take =
    record {
      rows = take.rows ∙ sym (in_runs-within null c.rows runs within);
      dtype = take.dtype ∙ also_nullable-none c.dtype;
      layout = take.layout;
      unwrapped = take.unwrapped;
      direct = take.direct;
      form = take.form;
    }
