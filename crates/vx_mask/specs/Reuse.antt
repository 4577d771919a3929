-- Which masks get indices before they are used again.
use Rattle.std.specs.Prelude.{ℕ, ◌*◌, ◌==◌, ◌&&◌, Bool, nat_le, length, is_none, if◌then◌else◌}
use Rattle.vx_bits.specs.BitBuffer.{true_count_of}
use Rattle.vx_mask.specs.declared.mask.Mask.{Mask}
use Rattle.vx_mask.specs.declared.mask.Mask.TheVariants.{AllTrue, AllFalse, Values}
use Rattle.vx_mask.specs.declared.policy.PolicyFields.{PolicyFields}
use Rattle.vx_mask.specs.declared.policy.Ratio.{Ratio}
use Rattle.vx_mask.specs.MaskValues.{PartialMask, keep_indices}
use Rattle.vx_mask.specs.Positions.{span_of}

-- whether at most so many of `len` rows are selected as the ratio allows
abbrev pub is_at_most : Ratio → ℕ → ℕ → Bool
is_at_most limit true_count len = nat_le (true_count * limit.den) (limit.num * len)

-- the greatest density of a mask that gets indices, for two consumers, or for more
abbrev pub reuse_limit : PolicyFields → ℕ → Ratio
reuse_limit fields consumers =
    if consumers == 2 then fields.reuse_two_max else fields.reuse_more_max

-- whether a mask has neither indices nor slices, is no single run, has at least two consumers, and
-- is sparse enough for so many
abbrev pub wants_indices : PartialMask → ℕ → PolicyFields → Bool
wants_indices mask consumers fields =
    let bits = mask.bits.bits in
    is_none mask.indices && (is_none mask.slices && (is_none (span_of bits) && (nat_le 2 consumers
    && is_at_most (reuse_limit fields consumers) (true_count_of bits) (length bits))))

-- the mask, with its set positions beside it where it wants them
abbrev pub mask_for_reuse : Mask → ℕ → PolicyFields → Mask
mask_for_reuse (AllTrue len) consumers fields = AllTrue len
mask_for_reuse (AllFalse len) consumers fields = AllFalse len
mask_for_reuse (Values mask) consumers fields =
    Values (if wants_indices mask consumers fields then keep_indices mask else mask)
