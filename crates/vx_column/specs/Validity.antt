-- What a `Validity` stands for.
use Rattle.vx_model.specs.Valid.{Valid, non_nullable, all_valid, all_invalid, by_column}
use Rattle.vx_column.specs.declared.validity.Validity.{Validity}
use Rattle.vx_column.specs.declared.validity.Validity.TheVariants.{NonNullable, AllValid, AllInvalid, Array}

abbrev pub valid_of : Validity → Valid
valid_of NonNullable = non_nullable
valid_of AllValid = all_valid
valid_of AllInvalid = all_invalid
valid_of (Array c) = by_column c
