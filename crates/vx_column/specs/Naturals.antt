-- Columns of integers, none of them negative.
use Rattle.std.specs.Prelude.{Bool, ◌&&◌}
use Rattle.std.specs.List.{list_all}
use Rattle.vx_offsets.specs.Offsets.{is_natural}
use Rattle.vx_model.specs.Numbers.{integers_of}
use Rattle.vx_model.specs.Records.{RecordParts}
use Rattle.vx_model.specs.VarBin.{are_integers}

-- none is null, and none is negative
abbrev pub are_naturals : RecordParts → Bool
are_naturals p = are_integers p && list_all is_natural (integers_of p)
