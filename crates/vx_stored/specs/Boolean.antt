-- By what a filter of bits goes.
use Rattle.std.specs.Prelude.{◌*◌, nat_lt, Bool, List, length}
use Rattle.vx_bits.specs.BitBuffer.{true_count_of}
use Rattle.vx_mask.specs.declared.policy.Ratio.{Ratio}

-- so many bits are set that their part of all is below this ratio
abbrev pub is_below : Ratio → List Bool → Bool
is_below ratio bits = nat_lt (true_count_of bits * ratio.den) (ratio.num * length bits)
