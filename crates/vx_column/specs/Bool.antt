-- What a `BoolArray` stands for.
use Rattle.vx_bits.specs.BitBuffer.{PlacedBits}
use Rattle.vx_model.specs.Bool.{BoolParts}
use Rattle.vx_column.specs.Validity.{valid_of}
use Rattle.vx_column.specs.declared.validity.Validity.{Validity}

abbrev pub bool_parts : PlacedBits → Validity → BoolParts
bool_parts bits validity = record { bits = bits; valid = valid_of validity }
