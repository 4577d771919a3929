-- What errors say.
use Rattle.std.specs.Prelude.{ℕ, List, ◌++◌, codes}
use Rattle.std.specs.Fmt.{signed_decimal}
use Rattle.vx_pieces.specs.declared.error.PiecesError.{PiecesError}
use Rattle.vx_pieces.specs.declared.error.PiecesError.TheVariants as cases
use Rattle.vx_pieces.specs.declared.fault.IndexFault.{IndexFault}
use Rattle.vx_pieces.specs.declared.fault.IndexFault.TheVariants as faults

abbrev pub pieces_error_text : PiecesError → List ℕ
pieces_error_text cases.BadPieces = codes "the piecewise sequence is not sound"
pieces_error_text cases.Overflow = codes "the number passes usize::MAX"
pieces_error_text cases.PastEnd = codes "the index is past the last number"
pieces_error_text cases.NoMemory = codes "out of memory"

abbrev pub index_fault_text : IndexFault → List ℕ
index_fault_text faults.InvalidIndices = codes "InvalidIndices"
index_fault_text faults.BadPieces = codes "BadPieces"
index_fault_text (faults.OutOfBounds index) = codes "OutOfBounds " ++ signed_decimal index
