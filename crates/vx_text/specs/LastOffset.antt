-- Where the last text ends.
use Rattle.std.specs.Prelude.{ℕ, slice_index}
use Rattle.vx_offsets.specs.Offsets.{offset_positions}
use Rattle.vx_model.specs.Numbers.{integers_of}
use Rattle.vx_model.specs.VarBin.{VarBinParts, row_count}

abbrev pub last_offset : VarBinParts → ℕ
last_offset p = slice_index (offset_positions (integers_of p.offsets)) (row_count p.offsets)
