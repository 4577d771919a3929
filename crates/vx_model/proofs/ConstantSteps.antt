-- What a step leaves of a constant.
use Rattle.std.proofs.Common.{◌≡◌, ℕ, zero, suc, ◌-◌, ◌≤◌, Bool, List, [], ◌∷◌, length, Option, None, Some, refl, sym, ap, ap₂, ◌∙◌, arith}
use Rattle.std.specs.Prelude.{replicate}
use Rattle.std.specs.List.{items_where_true}
use Rattle.std.proofs.Math.ListN.{get_or-replicate}
use Rattle.vx_bits.specs.BitBuffer.{true_count_of}
use Rattle.vx_types.specs.RowValue.{null}
use Rattle.vx_types.specs.declared.nullability.Nullability.TheVariants.{NonNullable}
use Rattle.vx_take.specs.Picks.{AreBelow, at}
use Rattle.vx_positions.specs.Positions.{AllThere}
use Rattle.vx_model.specs.Constant.{ConstantParts, constant_column, constant_with}
use Rattle.vx_model.specs.Step.{IsCut, IsSlice, IsTake}
use Rattle.vx_mask.proofs.RangeCounts.{slice_range-replicate}
use Rattle.vx_model.proofs.Items.{items_where_true-replicate}
use Rattle.vx_model.proofs.Nullabilities.{also_nullable-none}

-- of equal items, each pick that is there is one more
at-replicate : {X : Type 0} (missing x : X) (m : ℕ) (picks : List (Option ℕ)) → AllThere picks → AreBelow picks m → at missing (replicate m x) picks ≡ replicate (length picks) x
at-replicate missing x m [] there below = refl
at-replicate missing x m (None ∷ picks) there below = cc
at-replicate missing x m (Some p ∷ picks) there below =
    ap₂ ◌∷◌ (get_or-replicate m p x missing (below zero None (omega arith))) (at-replicate missing x m picks there (λ k d l. below (suc k) d (omega arith)))

pub is_slice-constant : (p : ConstantParts) (s e : ℕ) → s ≤ e → e ≤ p.len → IsSlice (constant_column p) s e (constant_column (constant_with p (e - s)))
is_slice-constant p s e h l =
    record {
      step = record { rows = sym (slice_range-replicate p.len p.scalar.row s e h l); dtype = refl; layout = λ _. refl; unwrapped = λ h. h; direct = λ h. h; form = refl };
      plain = λ h. h;
      depth = omega arith;
    }

pub is_filter-constant : (p : ConstantParts) (mask : List Bool) → length mask ≡ p.len → IsCut (constant_column p) (items_where_true mask (constant_column p).rows) (constant_column (constant_with p (true_count_of mask)))
is_filter-constant p mask h =
    record {
      step = record { rows = sym (items_where_true-replicate mask p.scalar.row) ∙ ap (λ k. items_where_true mask (replicate k p.scalar.row)) h; dtype = refl; layout = λ _. refl; unwrapped = λ h. h; direct = λ h. h; form = refl };
      plain = λ h. h;
      depth = omega arith;
    }

pub is_take-constant : (p : ConstantParts) (picks : List (Option ℕ)) → AllThere picks → AreBelow picks p.len → IsTake (constant_column p) picks NonNullable (constant_column (constant_with p (length picks)))
is_take-constant p picks there below =
    record {
      rows = sym (at-replicate null p.scalar.row p.len picks there below);
      dtype = sym (also_nullable-none p.scalar.dtype);
      layout = λ _. refl;
      unwrapped = λ h. h;
      direct = λ h. h;
      form = refl;
    }
