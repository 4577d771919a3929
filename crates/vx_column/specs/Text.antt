-- What a `VarBinArray` and a `VarBinViewArray` stand for.
use Rattle.std.specs.Prelude.{ℕ, List}
use Rattle.vx_types.specs.declared.text.BinaryView.{BinaryView}
use Rattle.vx_types.specs.declared.text.TextKind.{TextKind}
use Rattle.vx_model.specs.Records.{RecordParts}
use Rattle.vx_model.specs.VarBin.{VarBinParts}
use Rattle.vx_model.specs.VarBinView.{ViewParts}
use Rattle.vx_column.specs.Validity.{valid_of}
use Rattle.vx_column.specs.declared.validity.Validity.{Validity}

abbrev pub varbin_parts : TextKind → RecordParts → List ℕ → Validity → VarBinParts
varbin_parts kind offsets bytes validity =
    record { kind = kind; offsets = offsets; bytes = bytes; valid = valid_of validity }

abbrev pub view_parts : TextKind → List BinaryView → List (List ℕ) → Validity → ViewParts
view_parts kind views buffers validity =
    record { kind = kind; views = views; buffers = buffers; valid = valid_of validity }
