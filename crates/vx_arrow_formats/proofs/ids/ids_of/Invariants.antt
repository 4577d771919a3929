-- The ids so far, and the fields that are left.
use Rattle.std.proofs.Common.{◌≡◌, take}
use Rattle.vx_arrow_formats.specs.Ids.{ids_in, with_fields}
use Rattle.vx_arrow_formats.specs.Numbers.{fields_left}
use Rattle.vx_arrow_formats.proofs.IdFields.{left_len}
use Rattle.vx_arrow_formats.proofs.ids.ids_of.Given as goal

abbrev pub invariant-loop-rest : goal.invariant-loop-rest
invariant-loop-rest l = ids_in l.text ≡ with_fields (take l.ids.count l.ids.ids) (fields_left l.rest)

abbrev pub decreases-loop-rest : goal.decreases-loop-rest
decreases-loop-rest l = left_len l.rest
