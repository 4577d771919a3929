-- What errors say.
use Rattle.std.specs.Prelude.{ℕ, List, ◌++◌, codes, decimal}
use Rattle.vx_packed.specs.declared.fault.PackedFault.{PackedFault}
use Rattle.vx_packed.specs.declared.fault.PackedFault.TheVariants as cases
use Rattle.vx_packed.specs.declared.fault.PackedError.{PackedError}
use Rattle.vx_packed.specs.declared.fault.PackedError.TheVariants as errors

abbrev pub packed_fault_text : PackedFault → List ℕ
packed_fault_text cases.Short = codes "fewer bytes than the chunk has"
packed_fault_text cases.Width = codes "more digits than a number of this width has"
packed_fault_text cases.Long = codes "more bytes than the chunk has"
packed_fault_text cases.Base = codes "no number is the base"
packed_fault_text cases.Slack = codes "the greatest number needs fewer digits"
packed_fault_text cases.TooBig = codes "the greatest number passes the width"

abbrev pub packed_error_text : PackedError → List ℕ
packed_error_text (errors.Bad chunk fault) =
    codes "chunk " ++ decimal chunk ++ codes ": " ++ packed_fault_text fault
packed_error_text errors.NoMemory = codes "out of memory"
