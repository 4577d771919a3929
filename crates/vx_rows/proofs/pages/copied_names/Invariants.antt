-- The names before this one are copied.
use Rattle.std.proofs.Common.{◌≡◌, take}
use Rattle.vx_types.specs.Fields.{names_of}
use Rattle.vx_rows.proofs.pages.copied_names.Given as goal

abbrev pub invariant-loop-name : goal.invariant-loop-name
invariant-loop-name l = names_of l.copy.items ≡ names_of (take l.name-index l.names)
