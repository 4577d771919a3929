-- Takes by a list of indices, and why they have no rows.
use Rattle.std.specs.Prelude.{ℕ, Option, length}
use Rattle.std.specs.Option.{option_map}
use Rattle.vx_model.specs.Column.{Column}
use Rattle.vx_model.specs.Step.{IsTake}
use Rattle.vx_pieces.specs.Indices.{IndexValue, index_fault, index_nullability, index_picks}
use Rattle.vx_pieces.specs.declared.fault.IndexFault.{IndexFault}
use Rattle.vx_pieces.specs.declared.fault.IndexFault.TheVariants as faults
use Rattle.vx_layouts.specs.declared.taking.TakeError.{TakeError}
use Rattle.vx_layouts.specs.declared.taking.TakeError.TheVariants.{InvalidIndices, BadPieces}
use Rattle.vx_layouts.specs.declared.taking.TakeError.TheVariants.{OutOfBounds}

-- the error of a fault, in a take from so many rows
abbrev pub error_of : ℕ → IndexFault → TakeError
error_of len faults.InvalidIndices = InvalidIndices
error_of len faults.BadPieces = BadPieces
error_of len (faults.OutOfBounds index) = OutOfBounds index len

-- why a take from a column by these indices isn't one
abbrev pub take_fault : Column → IndexValue → Option TakeError
take_fault c indices = option_map (error_of (length c.rows)) (index_fault indices (length c.rows))

-- a has the rows of c that the indices name, null at a null, and its type, nullable also where
-- theirs is
abbrev pub IsTakeBy : IndexValue → Column → Column → Type 0
IsTakeBy indices c a = IsTake c (index_picks indices) (index_nullability indices) a
