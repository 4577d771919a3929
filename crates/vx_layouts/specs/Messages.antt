-- What errors say.
use Rattle.std.specs.Prelude.{ℕ, List, ◌++◌, codes, decimal}
use Rattle.std.specs.Fmt.{signed_decimal}
use Rattle.vx_layouts.specs.declared.taking.TakeError.{TakeError}
use Rattle.vx_layouts.specs.declared.taking.TakeError.TheVariants.{InvalidIndices, BadPieces, OutOfBounds, NoMemory}

abbrev pub take_error_text : TakeError → List ℕ
take_error_text InvalidIndices = codes "InvalidIndices"
take_error_text BadPieces = codes "BadPieces"
take_error_text (OutOfBounds index len) =
    codes "OutOfBounds " ++ signed_decimal index ++ codes " of " ++ decimal len
take_error_text NoMemory = codes "out of memory"
