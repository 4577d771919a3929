-- By what a kernel is chosen.
use Rattle.std.specs.Prelude.{ℕ, ◌*◌, ◌≤◌, ◌==◌, ◌&&◌, ◌||◌, nat_le, Bool, false, List, length, Option, None, Some, is_some}
use Rattle.vx_bits.specs.BitBuffer.{true_count_of}
use Rattle.vx_mask.specs.declared.policy.PolicyFields.{PolicyFields}
use Rattle.vx_mask.specs.declared.policy.Ratio.{Ratio}
use Rattle.vx_mask.specs.MaskValues.{PartialMask}

-- of each `den` rows the mask selects at least `num`
abbrev pub IsDense : PartialMask → Ratio → Type 0
IsDense mask ratio =
    ratio.num * length mask.bits.bits ≤ true_count_of mask.bits.bits * ratio.den

-- the runs that the mask keeps, if any, are one, or as long on average as the policy asks
abbrev pub are_long : PolicyFields → PartialMask → Option (List (ℕ × ℕ)) → Bool
are_long fields mask None = false
are_long fields mask (Some slices) =
    (length slices == 1)
    || nat_le (length slices * fields.min_average_run) (true_count_of mask.bits.bits)

-- the mask keeps indices, and at most as many of its rows are set as the policy says
abbrev pub are_few : PolicyFields → PartialMask → Bool
are_few fields mask =
    is_some mask.indices
    && nat_le (true_count_of mask.bits.bits * fields.cached_indices_max.den)
    (fields.cached_indices_max.num * length mask.bits.bits)
